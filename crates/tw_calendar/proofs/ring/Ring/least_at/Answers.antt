use Rattle.std.proofs.Common.{◌==◌, filter, slice_get, ap, ◌∙◌}
use Rattle.tw_ordered.specs.Buckets.{together}
use Rattle.tw_ordered.specs.InOrder.{least_with}
use Rattle.tw_calendar.specs.Ring.{hand_of}
use Rattle.tw_calendar.proofs.Removed.{least_passed}
use Rattle.tw_calendar.proofs.ring.Ring.least_at.Goals as goal

pub returns : goal.returns
returns c =
    let a = c.self.inside in
    let r = c.args.router in
    rw c.deref.ensures.value at c.least_of_all.ensures ∙ ap (λ o. least_with o (filter (λ e. e.dst == r) (together a.buckets.items))) c.least_at-least.ensures
    ∙ least_passed (λ e. e.dst == r) (hand_of a) (together a.buckets.items) ∙ ap (λ xs. slice_get (filter (λ e. e.dst == r) xs) 0) c.self.view_is
