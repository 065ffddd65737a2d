use Rattle.std.proofs.Common.{◌≡◌, drop, map}
use Rattle.tw_core.specs.Steps.{least_time}
use Rattle.tw_model.specs.Case.{Case, simulation}
use Rattle.tw_warp.specs.Flight.{all_of}
use Rattle.tw_warp.proofs.chunks.least_in_chunks.Given as goal

abbrev pub invariant-loop-chunk : goal.invariant-loop-chunk
invariant-loop-chunk l = (case : Case)
    → least_time (simulation case) (map (λ x. x.event) (all_of (drop l.chunk-index l.chunks))) l.least ≡ least_time (simulation case) (map (λ x. x.event) (all_of l.fn.chunks)) l.fn.top
