use Rattle.std.proofs.Common.{◌≡◌, ◌+◌, ◌≤◌, length, vec_capacity, vec_len}
use Rattle.std.specs.Vec.Iter.{into_iter_items, into_iter_len}
use Rattle.tw_parallel.proofs.Coming.{AreClosed}
use Rattle.tw_parallel.proofs.vacancy.shards_of.Given as goal

abbrev pub invariant-loop-worker : goal.invariant-loop-worker
invariant-loop-worker l = record {
  closed : AreClosed l.fn.vacant.items (into_iter_items l.worker-iterator) l.shards.items;
  room : vec_len l.shards + into_iter_len l.worker-iterator ≤ vec_capacity l.shards;
  rest : length (into_iter_items l.worker-iterator) ≡ into_iter_len l.worker-iterator;
}
