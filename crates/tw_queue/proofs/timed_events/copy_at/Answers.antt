use Rattle.std.proofs.Common.{arith}
use Rattle.tw_queue.proofs.Times.{put_if_ok}
use Rattle.tw_queue.proofs.timed_events.copy_at.Goals as goal

pub returns-then-event-time : goal.returns-then-event-time
returns-then-event-time c e = grind arith

pub returns : goal.returns
returns c =
    rw c.is_ok.ensures.value (put_if_ok c.insert.result c.args.time c.args.event.now c.args.queue.now c.insert.new.self c.if-event-time.false c.insert.ensures.ok)
