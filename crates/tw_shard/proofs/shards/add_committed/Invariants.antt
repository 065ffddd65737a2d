use Rattle.std.proofs.Common.{◌≡◌, ◌+◌, ◌-◌, ◌≤◌, ◌++◌, reverse, take}
use Rattle.std.specs.Prelude.{vec_capacity, vec_len}
use Rattle.tw_shard.specs.Shard.{timeline}
use Rattle.tw_shard.specs.Timeline.{history}
use Rattle.tw_shard.proofs.shards.add_committed.Given as goal

abbrev pub invariant-loop-k : goal.invariant-loop-k
invariant-loop-k l = record {
  items : l.events.items ≡ l.fn.events.items ++ take l.k (reverse (history (timeline l.shard l.router)));
  room : vec_len l.events + (l.count - l.k) ≤ vec_capacity l.events;
}
