use Rattle.std.proofs.Common.{ℕ, ◌≡◌, ◌<◌, [], get_or, map}
use Rattle.tw_exchange.specs.Rows.{items, soonest_of}
use Rattle.tw_exchange.proofs.joining.clear_all.Given as goal

abbrev pub invariant-loop-worker : goal.invariant-loop-worker
invariant-loop-worker g l = record {
  times : l.times ≡ map (soonest_of g.E.Timed.parts) (items l.lists);
  empty : (k : ℕ) → k < l.worker → get_or (items l.lists) k [] ≡ [];
}
