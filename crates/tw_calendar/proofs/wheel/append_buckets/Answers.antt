use Rattle.std.proofs.Common.{◌+◌, ◌++◌, drop, ap, sym, ◌∙◌, append_assoc}
use Rattle.tw_ordered.specs.Buckets.{together}
use Rattle.tw_ordered.proofs.Lists.{together_from}
use Rattle.tw_calendar.proofs.wheel.append_buckets.Goals as goal

pub loop-bucket-preserved : goal.loop-bucket-preserved
loop-bucket-preserved c =
    let i = c.loop-bucket.bucket-index in
    let lists = c.args.buckets.now in
    let bucket = c.bucket-item.result in
    let old = c.loop-bucket.events.items in
    let rest = together (drop (i + 1) lists) in
    let parts = together_from i bucket lists c.loop-bucket-test.true c.bucket-item.is in
    let more = c.in_ok-append_to.ensures in
    ap (λ xs. xs ++ rest) more ∙ append_assoc old bucket rest ∙ ap (λ xs. old ++ xs) (sym parts) ∙ c.loop-bucket.invariant
