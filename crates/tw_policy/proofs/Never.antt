-- A run that has come to rest after its script is stable by how the routers stand.
use Rattle.std.proofs.Common.{◌≡◌, List, [], length, get_or, Some, ℕ, ◌<◌, ◌≤◌, arith}
use Rattle.tw_event.specs.declared.event.Event.{Event}
use Rattle.tw_event.specs.declared.event.PathNo.{PathNo}
use Rattle.tw_model.specs.Net.{empty_path}
use Rattle.tw_model.specs.Case.{Case, IsCase, opening_events, simulation}
use Rattle.tw_model.specs.Quiet.{IsQuiet}
use Rattle.tw_sim.specs.Seq.{at}
use Rattle.tw_sim.proofs.Members.{In}
use Rattle.tw_model.proofs.Quiet.{heard_quiet, history}
use Rattle.tw_policy.specs.Stable.{IsStableAssignment}
use Rattle.tw_policy.specs.Standing.{standing}
use Rattle.tw_policy.specs.Alike.{AreAlike}
use Rattle.tw_policy.specs.Search.{all_paths, search}
use Rattle.tw_policy.proofs.Alike.{alike_back, stable_alike}
use Rattle.tw_policy.proofs.Search.{listed_at}
use Rattle.tw_policy.proofs.Late.{since_all}
use Rattle.tw_policy.proofs.Rests.{best_then}

pub at_rest : (case : Case) → (is : IsCase case) → (begin : ℕ) → ((e : Event) → In e (opening_events case.scenes) → e.time < begin) → (t : ℕ) → begin ≤ t → IsQuiet case t
    → IsStableAssignment case.net (standing case) (λ v. (at (simulation case) t v).rib)
at_rest case is begin scripted t ready quiet v here =
    best_then case is begin scripted t ready v begin (history case is t v) (omega arith) (since_all begin (history case is t v)) (λ w. (at (simulation case) t w).rib)
    (λ w there up. heard_quiet case is t quiet v w there up)

module _ (case other : Case) (is : IsCase case) (other_is : IsCase other) (alike : AreAlike case other) (n : ℕ) where
  -- and one of those that a search for them lists, also of a case with other delays
  pub listed_at_rest : (xs : List (ℕ → PathNo)) → search case.net (standing case) n (all_paths case.net (standing case)) ≡ Some xs
      → (begin : ℕ) → ((e : Event) → In e (opening_events other.scenes) → e.time < begin) → (t : ℕ) → begin ≤ t → IsQuiet other t
      → (k : ℕ) × (k < length xs) × ((v : ℕ) → v < case.net.nodes → get_or xs k (λ w. empty_path) v ≡ (at (simulation other) t v).rib)
  listed_at_rest xs found begin scripted t ready quiet =
      listed_at case.net (standing case) n xs found (λ v. (at (simulation other) t v).rib)
      (stable_alike other case other_is is (alike_back case other alike) (λ v. (at (simulation other) t v).rib) (at_rest other other_is begin scripted t ready quiet))

  pub never_rests : search case.net (standing case) n (all_paths case.net (standing case)) ≡ Some []
      → (begin : ℕ) → ((e : Event) → In e (opening_events other.scenes) → e.time < begin) → (t : ℕ) → begin ≤ t → IsQuiet other t → ⊥
  never_rests found begin scripted t ready quiet = let listed = listed_at_rest [] found begin scripted t ready quiet in let short = listed.1 in omega arith
