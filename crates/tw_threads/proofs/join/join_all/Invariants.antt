use Rattle.std.proofs.Common.{◌≡◌, ◌+◌, ◌≤◌, false, List, Some, length, vec_capacity, vec_len}
use Rattle.std.specs.List.{AllByRecursion, AllZip}
use Rattle.std.specs.Vec.Iter.{into_iter_items, into_iter_len}
use Rattle.tw_table.specs.declared.seat.Seat.{Seat}
use Rattle.tw_threads.proofs.Joins.{AreJoined}
use Rattle.tw_threads.specs.Started.{IsStarted, MaySit, was_refused}
use Rattle.tw_threads.specs.declared.end_cause.EndCause.TheVariants as cause
use Rattle.tw_threads.proofs.join.join_all.Given as goal

abbrev pub invariant-loop-one : goal.invariant-loop-one
invariant-loop-one g l = record {
  joined : (before : List Seat) → AllZip (IsStarted g.W.Work.share g.W.Work.stop l.fn.table) before l.fn.started.items
      → AreJoined g.W.Work.share g.W.Work.stop l.fn.table before (into_iter_items l.one-iterator) l.workers.items l.seats.items l.cause;
  told : AllByRecursion (λ one. was_refused one ≡ false) l.fn.started.items
      → AllByRecursion (λ one. was_refused one ≡ false) (into_iter_items l.one-iterator) × (l.cause ≡ Some cause.NoThread → ⊥);
  aside : AllByRecursion (MaySit g.W.Work.share g.W.Work.stop l.fn.table) (into_iter_items l.one-iterator);
  workers : vec_len l.workers + into_iter_len l.one-iterator ≤ vec_capacity l.workers;
  seats : vec_len l.seats + into_iter_len l.one-iterator ≤ vec_capacity l.seats;
  rest : length (into_iter_items l.one-iterator) ≡ into_iter_len l.one-iterator;
}
