use Rattle.std.proofs.Common.{◌≡◌, ◌≤◌, drop, length}
use Rattle.tw_event.specs.Order.{event_before}
use Rattle.tw_held.specs.Held.{AreFrom}
use Rattle.tw_sim.specs.Ordered.{insert_all}
use Rattle.tw_shard.proofs.timeline.hold.Given as goal

abbrev pub invariant-loop-event : goal.invariant-loop-event
invariant-loop-event l = record {
  room : length (drop l.event-index l.events) ≤ l.held.room;
  senders : AreFrom l.held.routers (drop l.event-index l.events);
  events : insert_all event_before (drop l.event-index l.events) l.held.events ≡ insert_all event_before l.events l.fn.held.events;
  routers : l.held.routers ≡ l.fn.held.routers;
}
