use Rattle.std.proofs.Common.{◌≡◌, drop, filter}
use Rattle.tw_event.specs.Order.{event_before}
use Rattle.tw_ordered.specs.Queue.{AreFor}
use Rattle.tw_shard.specs.Roster.{has}
use Rattle.tw_sim.specs.Ordered.{insert_all}
use Rattle.tw_shard.proofs.shard.open.insert_own.Given as goal

abbrev pub invariant-loop-event : goal.invariant-loop-event
invariant-loop-event l = record {
  routers : l.pending.routers ≡ l.fn.pending.routers;
  homes : AreFor l.pending.routers (drop l.event-index l.events);
  rest : insert_all event_before (filter (λ e. has l.roster.routers e.dst) (drop l.event-index l.events)) l.pending.events
      ≡ insert_all event_before (filter (λ e. has l.roster.routers e.dst) l.events) l.fn.pending.events;
}
