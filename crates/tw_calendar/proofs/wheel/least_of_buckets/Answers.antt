use Rattle.std.proofs.Common.{◌==◌, ◌+◌, drop, filter, ap, ◌∙◌}
use Rattle.tw_ordered.specs.Buckets.{together}
use Rattle.tw_ordered.specs.InOrder.{least_with}
use Rattle.tw_calendar.proofs.Sought.{least_next}
use Rattle.tw_calendar.proofs.wheel.least_of_buckets.Goals as goal

pub loop-bucket-preserved : goal.loop-bucket-preserved
loop-bucket-preserved c =
    let i = c.loop-bucket.bucket-index in
    let lists = c.args.buckets.now in
    let own = c.least_for-least.ensures ∙ ap (λ xs. least_with c.loop-bucket.least (filter (λ e. e.dst == c.args.router) xs)) c.events.ensures in
    ap (λ o. least_with o (filter (λ e. e.dst == c.args.router) (together (drop (i + 1) lists)))) own
    ∙ least_next (λ e. e.dst == c.args.router) c.loop-bucket.least i c.bucket-item.result lists c.loop-bucket-test.true c.bucket-item.is ∙ c.loop-bucket.invariant
