use Rattle.std.proofs.Common.{◌≡◌, drop}
use Rattle.tw_shard.specs.Timeline.{noted_change}
use Rattle.tw_shard.proofs.timeline.commit.last_change_of.Given as goal

abbrev pub invariant-loop-step : goal.invariant-loop-step
invariant-loop-step l = noted_change l.last (drop l.step-index l.steps) ≡ noted_change l.fn.time l.steps
