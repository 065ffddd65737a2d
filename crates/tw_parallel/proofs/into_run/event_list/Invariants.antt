use Rattle.std.proofs.Common.{◌≡◌, [], drop}
use Rattle.tw_event.specs.Order.{event_before}
use Rattle.tw_ordered.specs.Queue.{AreFor}
use Rattle.tw_sim.specs.Ordered.{insert_all}
use Rattle.tw_parallel.proofs.into_run.event_list.Given as goal

abbrev pub invariant-loop-event : goal.invariant-loop-event
invariant-loop-event l = record {
  routers : l.list.routers ≡ l.nodes;
  homes : AreFor l.list.routers (drop l.event-index l.events);
  rest : insert_all event_before (drop l.event-index l.events) l.list.events ≡ insert_all event_before l.events [];
}
