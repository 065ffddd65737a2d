-- What elimination solves is safe, and an instance without a dispute wheel is robust.
use Rattle.std.proofs.Common.{◌≡◌, ℕ, suc, ◌<◌, true, List, [], ◌∷◌, length, ap, sym, ◌∙◌, subst, inl, inr, arith}
use Rattle.std.specs.List.{All}
use Rattle.std.proofs.lemmas.Bool.{cases_lt, ltb-true}
use Rattle.tw_event.specs.declared.event.Event.{Event}
use Rattle.tw_event.specs.declared.event.PathNo.{PathNo}
use Rattle.tw_model.specs.Net.{Net, hops_of, is_own, path, paths_of}
use Rattle.tw_model.specs.State.{hop, opening, slot}
use Rattle.tw_model.specs.Rules.{IsNet}
use Rattle.tw_model.specs.Case.{Case, IsCase, opening_events}
use Rattle.tw_model.proofs.Nets.{hop_in_hops, neighbour}
use Rattle.tw_model.proofs.Paths.{paths_of-distinct, paths_own}
use Rattle.tw_sim.proofs.Members.{In, in_from_all}
use Rattle.tw_policy.specs.Alike.{AreAlikeNets}
use Rattle.tw_policy.specs.DisputeWheel.{IsDisputeWheel, Pivot}
use Rattle.tw_policy.specs.Elimination.{IsAtMost, IsSolvedIn, MayUse, after_rounds}
use Rattle.tw_policy.specs.OneList.{Ascends, IsOneList}
use Rattle.tw_policy.specs.Safe.{ComesToRest, IsRobust, IsSafe, RankAlike}
use Rattle.tw_policy.specs.Standing.{standing}
use Rattle.tw_policy.proofs.Alike.{path_same, paths_of_same, solved_alike}
use Rattle.tw_policy.proofs.Cases.{once_of, standing_once, standing_own}
use Rattle.tw_policy.proofs.Halts.{no_wheel_one_left}
use Rattle.tw_policy.proofs.Left.{left_solved}
use Rattle.tw_policy.proofs.OneList.{solved}
use Rattle.tw_policy.proofs.Rests.{eliminates, rests}
use Rattle.tw_policy.proofs.Robust.{still_one_list}
use Rattle.tw_policy.proofs.Scripts.{soon_ready}
use Rattle.tw_policy.proofs.Topological.{one_list}

-- a time after all of these
latest : (xs : List Event) → (start : ℕ) × ((e : Event) → In e xs → e.time < start)
latest [] = (0, λ e i. absurd i)
latest (x ∷ xs) =
    let more = latest xs in
    elim (cases_lt x.time more.0) [
      | inl before ↦ (more.0, λ e i. elim i [ inl same ↦ subst (λ z. z.time < more.0) (sym same) before | inr k ↦ more.1 e k ])
      | inr after ↦ (
        suc x.time,
        λ e i. elim i [
          | inl same ↦ subst (λ z. z.time < suc x.time) (sym same) (omega arith)
          | inr k ↦ (let early = more.1 e k in omega arith)
        ],
      )
    ]

-- no link takes longer than the limit
within_limit : (net : Net) → IsNet net → IsAtMost net 1000000
within_limit net is v w there =
    (neighbour net is v (hop net v (slot net v w)) (hop_in_hops net v (slot net v w) (ltb-true (slot net v w) (length (hops_of net v)) there))).most

pub comes_to_rest : (case : Case) → IsCase case → (n : ℕ) → IsSolvedIn case.net (standing case) n → ComesToRest case
comes_to_rest case is n solved_in =
    let last = latest (opening_events case.scenes) in (
      after_rounds last.0 1000000 (suc n),
      λ later over.
          rests case is last.0 last.1 later (soon_ready last.0 1000000 later (suc n) over) 1000000 (within_limit case.net is.net)
          (MayUse case.net (standing case)) (eliminates case.net (standing case)) n solved_in over,
    )

pub solved_safe : (case : Case) → IsCase case → (n : ℕ) → IsSolvedIn case.net (standing case) n → IsSafe case
solved_safe case is n solved_in = λ other other_is alike. comes_to_rest other other_is n (solved_alike case other is other_is alike n solved_in)

pub no_wheel_safe : (case : Case) → IsCase case → ((one : Pivot) (others : List Pivot) → IsDisputeWheel case.net (standing case) one others → ⊥) → IsSafe case
no_wheel_safe case is no_wheel =
    let one = no_wheel_one_left case.net (standing case) no_wheel in
    solved_safe case is (suc one.0) (left_solved case.net (standing case) one.0 one.2)

-- one list of an instance's paths is one of every instance that differs in delays
list_alike : (net other : Net) → AreAlikeNets net other → (place : PathNo → ℕ) → IsOneList net (opening net) place → IsOneList other (opening other) place
list_alike net other alike place is = record {
  ranks = λ v. subst (Ascends place) (paths_of_same net other alike v) (is.ranks v);
  goes_on = λ v. subst (All (λ q. (r : PathNo) → path other q ≡ v ∷ path other r → place r < place q)) (paths_of_same net other alike v)
      (λ k d within r nodes. is.goes_on v k d within r (path_same net other alike _ ∙ (nodes ∙ ap (λ p. v ∷ p) (sym (path_same net other alike r)))));
}

pub no_wheel_robust : (net : Net) → ((one : Pivot) (others : List Pivot) → IsDisputeWheel net (opening net) one others → ⊥) → IsRobust net
no_wheel_robust net no_wheel =
    let listed = one_list net (opening net) (λ v q i. in_from_all (λ p. is_own net v p ≡ true) (paths_of net v) (paths_own net v) q i)
    (λ v. once_of (paths_of net v) (paths_of-distinct net v)) no_wheel in
    λ case is alike keeps.
    comes_to_rest case is listed.1
    (solved case.net (standing case) listed.0 (still_one_list case is keeps listed.0 (list_alike net case.net alike listed.0 listed.2)) listed.1 listed.3)

-- one list by the ranks as the routers stand is one of every case whose routers come to rank their paths so
pub list_stands : (case other : Case) → AreAlikeNets case.net other.net → RankAlike case other → (place : PathNo → ℕ) → IsOneList case.net (standing case) place
    → IsOneList other.net (standing other) place
list_stands case other alike ranks place is = grind (arith, path_same)

pub no_wheel_ranks : (case other : Case) → IsCase case → IsCase other → AreAlikeNets case.net other.net → RankAlike case other
    → ((one : Pivot) (others : List Pivot) → IsDisputeWheel case.net (standing case) one others → ⊥) → ComesToRest other
no_wheel_ranks case other is other_is alike ranks no_wheel =
    let listed = one_list case.net (standing case) (λ v. standing_own case is v) (λ v. standing_once case is v) no_wheel in
    comes_to_rest other other_is listed.1 (solved other.net (standing other) listed.0 (list_stands case other alike ranks listed.0 listed.2) listed.1 listed.3)
