use Rattle.tw_event.specs.Order.{event_same}
use Rattle.tw_sim.specs.Ordered.{times}
use Rattle.tw_ordered.specs.Buckets.{together}
use Rattle.std.proofs.Common.{◌+◌, drop, ap, ◌∙◌, arith}
use Rattle.tw_ordered.proofs.Lists.{times-append, together_from}
use Rattle.tw_queue.proofs.far.append_all.Goals as goal

pub loop-bucket-preserved : goal.loop-bucket-preserved
loop-bucket-preserved c e =
    let i = c.loop-bucket.bucket-index in
    let lists = c.args.buckets.now in
    let bucket = c.bucket-item.result in
    let parts = ap (times event_same e) (together_from i bucket lists c.loop-bucket-test.true c.bucket-item.is) in
    let n = times-append e bucket (together (drop (i + 1) lists)) in
    let more = ap (times event_same e) c.in_ok-extend_from_slice.ensures.items ∙ times-append e c.loop-bucket.events.items c.events.result.now in
    let same = ap (times event_same e) c.events.ensures in
    let before = c.loop-bucket.invariant e in
    omega arith
