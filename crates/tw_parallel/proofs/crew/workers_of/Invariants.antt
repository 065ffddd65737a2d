use Rattle.std.proofs.Common.{◌≡◌, ◌+◌, ◌≤◌, length, vec_capacity, vec_len}
use Rattle.std.specs.Vec.Iter.{into_iter_items, into_iter_len}
use Rattle.tw_parallel.proofs.Crews.{AreMade}
use Rattle.tw_table.specs.Shares.{shares_of}
use Rattle.tw_parallel.proofs.crew.workers_of.Given as goal

abbrev pub invariant-loop-shard : goal.invariant-loop-shard
invariant-loop-shard l = record {
  made : AreMade l.fn.stop (shares_of l.fn.shards.items l.fn.hands.items) (into_iter_items l.shard-iterator) (into_iter_items l.hands) l.workers.items;
  room : vec_len l.workers + into_iter_len l.shard-iterator ≤ vec_capacity l.workers;
  rest : length (into_iter_items l.shard-iterator) ≡ into_iter_len l.shard-iterator;
  hands : length (into_iter_items l.hands) ≡ into_iter_len l.hands;
}
