use Rattle.std.proofs.Common.{◌≡◌, ◌≤◌, length}
use Rattle.tw_event.specs.Order.{event_before}
use Rattle.tw_ordered.specs.Queue.{for_others, for_router}
use Rattle.tw_sim.specs.Ordered.{insert_all}
use Rattle.tw_queue.proofs.pending.Pending.hand_over.Given as goal

abbrev pub invariant-loop-event : goal.invariant-loop-event
invariant-loop-event l = record {
  places : length (for_router l.router l.self.events) ≤ l.to.room;
  given : insert_all event_before (for_router l.router l.self.events) l.to.events ≡ insert_all event_before (for_router l.router l.fn.self.events) l.fn.to.events;
  others : for_others l.router l.self.events ≡ for_others l.router l.fn.self.events;
  routers : l.self.routers ≡ l.fn.self.routers;
  to_routers : l.to.routers ≡ l.fn.to.routers;
  room : l.fn.self.room ≤ l.self.room;
}

abbrev pub decreases-loop-event : goal.decreases-loop-event
decreases-loop-event l = length (for_router l.router l.self.events)
