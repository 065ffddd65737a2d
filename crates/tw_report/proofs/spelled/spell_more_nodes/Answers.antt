use Rattle.std.proofs.Common.{arith}
use Rattle.tw_report.proofs.spelled.spell_more_nodes.Goals as goal

pub spell_next-end-requires : goal.spell_next-end-requires
spell_next-end-requires c = record { room = omega (arith, c.requires.room, c.loop-node-test.true, c.loop-node.invariant.0, c.loop-node.invariant.1) }
