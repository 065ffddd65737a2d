use Rattle.std.proofs.Common.{◌≡◌, ◌+◌, ◌≤◌, length, vec_capacity, vec_len}
use Rattle.std.specs.Vec.Iter.{into_iter_items, into_iter_len}
use Rattle.tw_threads.proofs.Starts.{AreWaiting}
use Rattle.tw_threads.proofs.start.start_all.Given as goal

abbrev pub invariant-loop-worker : goal.invariant-loop-worker
invariant-loop-worker g l = record {
  waiting : AreWaiting g.W.Work.share g.W.Work.stop l.fn.table l.fn.seats.items (into_iter_items l.seats) (into_iter_items l.worker-iterator) l.started.items;
  count : vec_len l.started + into_iter_len l.worker-iterator ≡ vec_len l.fn.workers;
  room : vec_len l.started + into_iter_len l.worker-iterator ≤ vec_capacity l.started;
  rest : length (into_iter_items l.worker-iterator) ≡ into_iter_len l.worker-iterator;
  seats : length (into_iter_items l.seats) ≡ into_iter_len l.seats;
}
