use Rattle.std.proofs.Common.{ℕ, ◌≡◌, ◌+◌, ◌<◌, ◌≤◌, true, length, take}
use Rattle.std.specs.List.{All}
use Rattle.tw_model.specs.Net.{hops_of}
use Rattle.tw_elimination.specs.Placing.{GoesOnNext, has_router}
use Rattle.tw_elimination.proofs.placing.push_waiting.Given as goal

abbrev pub invariant-loop-hop : goal.invariant-loop-hop
invariant-loop-hop l = record {
  kept : (v : ℕ) → has_router l.initial.work.items v ≡ true → has_router l.work.items v ≡ true;
  waiting : All (λ h. GoesOnNext l.instance l.placed l.path h.peer → has_router l.work.items h.peer ≡ true) (take l.hop-index (hops_of l.instance l.router));
  few : length l.work.items ≤ length l.initial.work.items + l.hop-index;
  homes : All (λ v. v < l.instance.nodes) l.initial.work.items → All (λ v. v < l.instance.nodes) l.work.items;
}
