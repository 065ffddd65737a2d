use Rattle.std.proofs.Common.{◌≡◌, ◌+◌, ◌≤◌, ◌++◌, drop, length, map, vec_capacity, vec_len}
use Rattle.tw_engine.proofs.steps.put_out.Given as goal

-- what is left goes behind, and has room
abbrev pub invariant-loop-event : goal.invariant-loop-event
invariant-loop-event g l = record {
  behind : l.flight.items ++ map (λ e. record { event = e; plus = l.plus }) (drop l.event-index l.events) ≡ l.fn.flight.items ++ map (λ e. record { event = e; plus = l.plus }) l.events;
  room : vec_len l.flight + length l.events ≤ vec_capacity l.flight + l.event-index;
}
