use Rattle.std.proofs.Common.{◌≡◌, ◌+◌, ◌≤◌, ◌++◌, drop, length, vec_capacity, vec_len}
use Rattle.tw_routing.proofs.sending.put_behind.Given as goal

-- what is left goes behind, and has room
abbrev pub invariant-loop-event : goal.invariant-loop-event
invariant-loop-event l = record {
  behind : l.sends.items ++ drop l.event-index l.events ≡ l.fn.sends.items ++ l.events;
  room : vec_len l.sends + length l.events ≤ vec_capacity l.sends + l.event-index;
  capacity : vec_capacity l.fn.sends ≤ vec_capacity l.sends;
}
