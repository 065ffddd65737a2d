use Rattle.std.proofs.Common.{◌≡◌, ◌≤◌, length}
use Rattle.tw_event.specs.Order.{event_before}
use Rattle.tw_held.specs.Held.{sent_by, sent_by_others}
use Rattle.tw_sim.specs.Ordered.{insert_all}
use Rattle.tw_held.proofs.held.HeldSends.hand_over.Given as goal

abbrev pub invariant-loop-sent : goal.invariant-loop-sent
invariant-loop-sent l = record {
  places : length (sent_by l.router l.self.events) ≤ l.to.room;
  given : insert_all event_before (sent_by l.router l.self.events) l.to.events ≡ insert_all event_before (sent_by l.router l.fn.self.events) l.fn.to.events;
  others : sent_by_others l.router l.self.events ≡ sent_by_others l.router l.fn.self.events;
  routers : l.self.routers ≡ l.fn.self.routers;
  to_routers : l.to.routers ≡ l.fn.to.routers;
  room : l.fn.self.room ≤ l.self.room;
}

abbrev pub decreases-loop-sent : goal.decreases-loop-sent
decreases-loop-sent l = length (sent_by l.router l.self.events)
