use Rattle.std.proofs.Common.{◌≡◌, ℕ, length}
use Rattle.std.specs.Vec.Iter.{into_iter_items, into_iter_len}
use Rattle.tw_parallel.proofs.Coming.{AreComing}
use Rattle.tw_parallel.specs.Vacancy.{start_from}
use Rattle.tw_seq.specs.Traced.{retained}
use Rattle.tw_parallel.proofs.vacancy.take_in.Given as goal

abbrev pub invariant-loop-router : goal.invariant-loop-router
invariant-loop-router l = record {
  from : ℕ;
  coming : AreComing (start_from l.owners l.fn.vacant.items) from (into_iter_items l.router-iterator) (retained l.logs) l.vacant.items;
  rest : length (into_iter_items l.router-iterator) ≡ into_iter_len l.router-iterator;
}
