use Rattle.std.proofs.Common.{◌+◌, drop, ap, arith}
use Rattle.tw_event.specs.Order.{event_same}
use Rattle.tw_sim.specs.Ordered.{times}
use Rattle.tw_ordered.specs.Buckets.{together}
use Rattle.tw_ordered.proofs.Lists.{times-append, together_from}
use Rattle.tw_queue.proofs.queue_table.append_all.Goals as goal

pub loop-queue-preserved : goal.loop-queue-preserved
loop-queue-preserved c e =
    let i = c.loop-queue.queue-index in
    let lists = c.args.queues.now in
    let queue = c.queue-item.result in
    let rest = together (drop (i + 1) lists) in
    let parts = ap (times event_same e) (together_from i queue lists c.loop-queue-test.true c.queue-item.is) in
    let both = times-append e queue rest in
    let more = c.in_ok-append_to.ensures.ok e in
    let before = c.loop-queue.invariant e in
    let seen = ap (times event_same e) c.queue-item.is in
    omega arith
