use Rattle.std.proofs.Common.{◌≡◌, ◌==◌, filter}
use Rattle.std.specs.List.{range_with_len}
use Rattle.tw_sim.specs.Owners.{owner}
use Rattle.tw_shard.proofs.roster.Roster.in_turn.Given as goal

-- those below the next number are told
abbrev pub invariant-loop-router : goal.invariant-loop-router
invariant-loop-router l = record {
  count : l.roster.count ≡ l.count;
  routers : l.roster.routers ≡ filter (λ r. owner l.workers r == l.worker) (range_with_len 0 l.router);
}
