use Rattle.std.proofs.Common.{◌≡◌, ◌==◌, filter, ℕ, slice_index_or}
use Rattle.std.specs.List.{range_with_len}
use Rattle.tw_shard.proofs.roster.Roster.owned.Given as goal

-- those below the next number are told
abbrev pub invariant-loop-router : goal.invariant-loop-router
invariant-loop-router l = record {
  count : l.roster.count ≡ l.count;
  routers : (none : ℕ) → l.roster.routers ≡ filter (λ r. slice_index_or l.owners r none == l.worker) (range_with_len 0 l.router);
}
