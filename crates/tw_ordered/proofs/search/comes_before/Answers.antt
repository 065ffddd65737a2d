use Rattle.std.proofs.Common.{sym}
use Rattle.tw_ordered.proofs.Events.{before_by_time}
use Rattle.tw_ordered.proofs.search.comes_before.Goals as goal

pub returns-then-event-other : goal.returns-then-event-other
returns-then-event-other c = sym (before_by_time c.args.event.now c.args.other.now c.if-event-other.true)
