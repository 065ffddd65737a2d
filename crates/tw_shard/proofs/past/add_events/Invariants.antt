use Rattle.std.proofs.Common.{◌≡◌, ◌+◌, ◌≤◌, ◌++◌, drop, length}
use Rattle.std.specs.Prelude.{vec_capacity, vec_len}
use Rattle.tw_shard.specs.Timeline.{events_of}
use Rattle.tw_shard.proofs.past.add_events.Given as goal

abbrev pub invariant-loop-step : goal.invariant-loop-step
invariant-loop-step l = record {
  room : vec_len l.events + length (drop l.step-index l.steps) ≤ vec_capacity l.events;
  capacity : vec_capacity l.events ≡ vec_capacity l.fn.events;
  len : vec_len l.events + length (drop l.step-index l.steps) ≡ vec_len l.fn.events + length l.steps;
  items : l.events.items ++ events_of (drop l.step-index l.steps) ≡ l.fn.events.items ++ events_of l.steps;
}
