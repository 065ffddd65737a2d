use Rattle.std.proofs.Common.{◌≡◌, ◌≤◌, drop, length}
use Rattle.tw_event.specs.Order.{event_before}
use Rattle.tw_sim.specs.Ordered.{insert_all}
use Rattle.tw_ordered.specs.Queue.{AreFor}
use Rattle.tw_seq.proofs.turn.insert_each.Given as goal

abbrev pub invariant-loop-event : goal.invariant-loop-event
invariant-loop-event l = record {
  routers : l.pending.routers ≡ l.fn.pending.routers;
  homes : AreFor l.pending.routers (drop l.event-index l.events);
  room : length (drop l.event-index l.events) ≤ l.pending.room;
  rest : insert_all event_before (drop l.event-index l.events) l.pending.events ≡ insert_all event_before l.events l.fn.pending.events;
}
