use Rattle.std.proofs.Common.{◌≡◌, ◌≤◌, ◌+◌, ◌++◌, length, map, vec_capacity, vec_len}
use Rattle.tw_held.specs.Held.{antimessage, sent_by, sent_by_others}
use Rattle.tw_held.proofs.held.HeldSends.release.Given as goal

abbrev pub invariant-loop-event : goal.invariant-loop-event
invariant-loop-event l = record {
  places : vec_len l.outgoing + length (sent_by l.router l.self.events) ≤ vec_capacity l.outgoing;
  messages : l.outgoing.items ++ map antimessage (sent_by l.router l.self.events) ≡ l.fn.outgoing.items ++ map antimessage (sent_by l.router l.fn.self.events);
  others : sent_by_others l.router l.self.events ≡ sent_by_others l.router l.fn.self.events;
  capacity : vec_capacity l.outgoing ≡ vec_capacity l.fn.outgoing;
  routers : l.self.routers ≡ l.fn.self.routers;
  room : l.fn.self.room ≤ l.self.room;
}

abbrev pub decreases-loop-event : goal.decreases-loop-event
decreases-loop-event l = length (sent_by l.router l.self.events)
