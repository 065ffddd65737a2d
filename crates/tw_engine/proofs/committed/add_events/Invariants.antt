use Rattle.std.proofs.Common.{◌≡◌, ◌+◌, ◌≤◌, ◌++◌, drop, length, map, vec_capacity, vec_len}
use Rattle.tw_engine.proofs.committed.add_events.Given as goal

-- what is left goes behind, and has room
abbrev pub invariant-loop-step : goal.invariant-loop-step
invariant-loop-step g l = record {
  behind : l.events.items ++ map (λ d. d.event) (drop l.step-index l.steps) ≡ l.fn.events.items ++ map (λ d. d.event) l.steps;
  room : vec_len l.events + length l.steps ≤ vec_capacity l.events + l.step-index;
}
