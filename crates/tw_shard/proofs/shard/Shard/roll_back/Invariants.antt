use Rattle.std.proofs.Common.{length}
use Rattle.tw_shard.specs.Shard.{timeline}
use Rattle.tw_shard.proofs.RollBack.{IsRolling}
use Rattle.tw_shard.proofs.shard.Shard.roll_back.Given as goal

abbrev pub invariant-loop-reach : goal.invariant-loop-reach
invariant-loop-reach l = IsRolling l.reach l.event l.fn.self l.self

abbrev pub decreases-loop-reach : goal.decreases-loop-reach
decreases-loop-reach l = length (timeline l.self l.event.dst).ahead
