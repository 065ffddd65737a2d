use Rattle.tw_queue.proofs.timed_events.TimedEvents.drop_tick.Goals as goal

pub invariant_of-self : goal.invariant_of-self
invariant_of-self c = c.drop_tick.ensures.alike
