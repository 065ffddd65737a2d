use Rattle.std.proofs.Common.{◌++◌, ap, ◌∙◌}
use Rattle.tw_core.specs.Steps.{least_loose}
use Rattle.tw_model.specs.Case.{simulation}
use Rattle.tw_warp.specs.Bounds.{least_of_all}
use Rattle.tw_warp.specs.Inside.{warp_of}
use Rattle.tw_warp.specs.Warp.{Warp, warp_core}
use Rattle.tw_warp.proofs.Bounds.{least_found}
use Rattle.tw_warp.proofs.warp.Warp.least_loose.Goals as goal

pub returns : goal.returns
returns c =
    let w = warp_of c.self.inside in
    let m = simulation w.case in
    c.least_waiting.ensures w.case
    ∙ ((λ i. least_of_all m (λ s. s.pending ++ s.kept ++ s.held) (c.deref.ensures.value i)
    (c.least_time-in_flight.ensures w.case i))
    ∙ (least_found w c.self.invariant ∙ ap (λ (v : Warp). least_loose (simulation v.case) (warp_core v)) c.self.view_is))
