use Rattle.std.proofs.Common.{◌≡◌, ◌+◌, ◌≤◌, length, vec_capacity, vec_len}
use Rattle.std.specs.Vec.Iter.{into_iter_items, into_iter_len}
use Rattle.tw_parallel.proofs.Crews.{AreApart}
use Rattle.tw_parallel.proofs.crew.parts_of.Given as goal

abbrev pub invariant-loop-worker : goal.invariant-loop-worker
invariant-loop-worker l = record {
  apart : AreApart l.fn.workers.items (into_iter_items l.worker-iterator) l.shards.items l.hands.items;
  shards : vec_len l.shards + into_iter_len l.worker-iterator ≤ vec_capacity l.shards;
  hands : vec_len l.hands + into_iter_len l.worker-iterator ≤ vec_capacity l.hands;
  rest : length (into_iter_items l.worker-iterator) ≡ into_iter_len l.worker-iterator;
}
