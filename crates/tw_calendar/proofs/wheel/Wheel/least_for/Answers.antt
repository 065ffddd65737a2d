use Rattle.std.proofs.Common.{◌==◌, filter, ap, ◌∙◌}
use Rattle.tw_ordered.specs.Buckets.{together}
use Rattle.tw_ordered.specs.InOrder.{least_with}
use Rattle.tw_calendar.proofs.Removed.{least_for_order}
use Rattle.tw_calendar.proofs.wheel.Wheel.least_for.Goals as goal

pub returns : goal.returns
returns c =
    let r = c.args.router in
    rw c.deref.ensures.value at c.least_of_buckets.ensures ∙ least_for_order (λ e. e.dst == r) c.args.first (together c.self.inside.buckets.items) ∙ ap (λ xs. least_with c.args.first (filter (λ e. e.dst == r) xs)) c.self.view_is
