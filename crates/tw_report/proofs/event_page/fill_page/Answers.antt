use Rattle.std.proofs.Common.{arith}
use Rattle.tw_report.proofs.event_page.fill_page.Goals as goal

pub spell_event-end-requires-clause-room : goal.spell_event-end-requires-clause-room
spell_event-end-requires-clause-room c = omega (arith, c.if-end.false, c.loop-count.invariant.0, c.loop-count.invariant.1)
