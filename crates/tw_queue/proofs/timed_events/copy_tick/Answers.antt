use Rattle.std.proofs.Common.{◌∙◌}
use Rattle.tw_queue.proofs.Times.{copied_on}
use Rattle.tw_queue.proofs.timed_events.copy_tick.Goals as goal

pub loop-event-preserved : goal.loop-event-preserved
loop-event-preserved c e =
    copied_on c.args.time c.loop-event.event-index c.args.events.now c.loop-event.queue c.copy_at.new.queue c.loop-event-test.true _ e (c.if-not-copy_at.ensures e) ∙ c.loop-event.invariant e
