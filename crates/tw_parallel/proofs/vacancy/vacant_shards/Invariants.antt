use Rattle.std.proofs.Common.{◌≡◌, ℕ, ◌<◌, ◌≤◌, get_or, length}
use Rattle.std.specs.Prelude.{vec_capacity}
use Rattle.tw_parallel.specs.Vacancy.{Start, no_vacant, vacant_from}
use Rattle.tw_parallel.proofs.vacancy.vacant_shards.Given as goal

abbrev pub invariant-loop-worker : goal.invariant-loop-worker
invariant-loop-worker l =
    let start : Start = record { case = l.case; owners = l.owners; workers = l.workers; time = l.time; retains = l.retains; cancel = l.cancel } in
    record {
      count : length l.vacant.items ≡ l.worker;
      room : l.workers ≤ vec_capacity l.vacant;
      each : (w : ℕ) → w < l.worker → get_or l.vacant.items w no_vacant ≡ vacant_from start 0 w;
    }
