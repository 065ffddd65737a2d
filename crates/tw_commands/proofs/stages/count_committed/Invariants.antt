use Rattle.std.proofs.Common.{◌≡◌, ◌+◌, ◌*◌, ◌≤◌, drop}
use Rattle.std.specs.List.{fold, sum_by}
use Rattle.tw_commands.proofs.stages.count_committed.Given as goal

abbrev pub invariant-loop-end : goal.invariant-loop-end
invariant-loop-end l = record {
  sum : fold (λ count end. count + end.counters.handled) l.count (drop l.end-index l.outcome.routers.items) ≡ sum_by (λ end. end.counters.handled) l.outcome.routers.items;
  fits : l.count ≤ l.end-index * 18446744073709551616;
}
