use Rattle.std.proofs.Common.{◌≡◌, ◌++◌, map}
use Rattle.std.specs.List.{range_with_len}
use Rattle.tw_model.specs.Case.{simulation}
use Rattle.tw_parallel.specs.Sim.{machine}
use Rattle.tw_shape.specs.Shape.{bare}
use Rattle.tw_sim.specs.Simulation.{state}
use Rattle.tw_parallel.proofs.sim.Sim.gather.Given as goal

abbrev pub invariant-loop-number : goal.invariant-loop-number
invariant-loop-number l = record {
  time : l.builder.time ≡ l.initial.builder.time;
  routers : l.builder.routers ≡ l.initial.builder.routers
      ++ map bare (map (λ r. state (simulation l.fn.self.case) r ((machine l.fn.self).history r)) (range_with_len 0 l.number));
  sent : l.builder.sent ≡ l.initial.builder.sent
      ++ map (λ s. s.counters.sent) (map (λ r. state (simulation l.fn.self.case) r ((machine l.fn.self).history r)) (range_with_len 0 l.number));
}
