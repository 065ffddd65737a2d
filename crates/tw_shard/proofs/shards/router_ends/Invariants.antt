use Rattle.std.proofs.Common.{◌≡◌, map}
use Rattle.std.specs.List.{range_with_len}
use Rattle.tw_model.specs.Case.{simulation}
use Rattle.tw_model.specs.Summary.{end_of}
use Rattle.tw_shard.specs.Shards.{history_in}
use Rattle.tw_sim.specs.Simulation.{state}
use Rattle.tw_shard.proofs.shards.router_ends.Given as goal

abbrev pub invariant-loop-router : goal.invariant-loop-router
invariant-loop-router l = l.ends.items ≡ map (λ r. end_of (state (simulation l.case) r (history_in l.shards r))) (range_with_len 0 l.router)
