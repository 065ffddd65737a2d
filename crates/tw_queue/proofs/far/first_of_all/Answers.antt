use Rattle.std.proofs.Common.{◌+◌, drop, ap, sym, ◌∙◌}
use Rattle.std.specs.Option.{option_copied}
use Rattle.tw_ordered.specs.Buckets.{together}
use Rattle.tw_ordered.specs.InOrder.{least_with}
use Rattle.tw_queue.proofs.Fars.{least_with-append}
use Rattle.tw_ordered.proofs.Lists.{together_from}
use Rattle.tw_queue.proofs.far.first_of_all.Goals as goal

pub loop-bucket-preserved : goal.loop-bucket-preserved
loop-bucket-preserved c =
    let i = c.loop-bucket.bucket-index in
    let lists = c.args.buckets.now in
    let bucket = c.bucket-item.result in
    let rest = together (drop (i + 1) lists) in
    let old = option_copied c.loop-bucket.least in
    ap (λ o. least_with o rest) (c.soonest_of-least.ensures ∙ ap (least_with old) c.events.ensures) ∙ sym (least_with-append old bucket rest)
    ∙ ap (least_with old) (sym (together_from i bucket lists c.loop-bucket-test.true c.bucket-item.is)) ∙ c.loop-bucket.invariant
