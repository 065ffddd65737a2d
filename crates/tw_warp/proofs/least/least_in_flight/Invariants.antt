use Rattle.std.proofs.Common.{◌≡◌, drop, map}
use Rattle.tw_core.specs.Steps.{least_time}
use Rattle.tw_model.specs.Case.{Case, simulation}
use Rattle.tw_warp.proofs.least.least_in_flight.Given as goal

abbrev pub invariant-loop-message : goal.invariant-loop-message
invariant-loop-message l = (case : Case)
    → least_time (simulation case) (map (λ x. x.event) (drop l.message-index l.messages)) l.least ≡ least_time (simulation case) (map (λ x. x.event) l.fn.messages) l.fn.top
