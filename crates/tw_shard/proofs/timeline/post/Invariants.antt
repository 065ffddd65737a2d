use Rattle.std.proofs.Common.{◌≡◌, ◌+◌, ◌≤◌, ◌++◌, drop, length, map}
use Rattle.std.specs.Prelude.{vec_capacity, vec_len}
use Rattle.tw_shard.specs.Timeline.{signed}
use Rattle.tw_shard.proofs.timeline.post.Given as goal

abbrev pub invariant-loop-event : goal.invariant-loop-event
invariant-loop-event l = record {
  room : vec_len l.outgoing + length (drop l.event-index l.events) ≤ vec_capacity l.outgoing;
  items : l.outgoing.items ++ map (signed l.plus) (drop l.event-index l.events) ≡ l.fn.outgoing.items ++ map (signed l.plus) l.events;
}
