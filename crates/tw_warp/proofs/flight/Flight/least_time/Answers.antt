use Rattle.std.proofs.Common.{◌∙◌, ap, map}
use Rattle.tw_core.specs.Steps.{least_time}
use Rattle.tw_model.specs.Case.{simulation}
use Rattle.tw_warp.specs.Flight.{all_of}
use Rattle.tw_warp.proofs.Bounds.{least_behind}
use Rattle.tw_warp.proofs.flight.Flight.least_time.Goals as goal

pub returns : goal.returns
returns c = λ case.
    let m = simulation case in
    let inside = c.self.inside in
    c.least_in_chunks.ensures case
    ∙ ((λ i. least_time m (map (λ x. x.event) (all_of (c.deref.ensures.value i)))
    ((c.least_in_flight.ensures case ∙ ap (λ xs. least_time m (map (λ x. x.event) xs) c.args.top) c.deref-2.ensures.value) i))
    ∙ (least_behind case inside.earlier.items inside.recent.items c.args.top ∙ ap (λ xs. least_time m (map (λ x. x.event) xs) c.args.top) c.self.view_is))
