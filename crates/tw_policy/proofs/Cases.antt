-- The ranks of a case's routers hold paths of their own, each once, also as the routers stand once the script is over.
use Rattle.std.proofs.Common.{◌≡◌, ◌≢◌, ℕ, suc, ◌-◌, ◌==◌, true, false, List, [], ◌∷◌, ◌++◌, length, get_or, refl, sym, ◌∙◌, subst, inl, inr, arith, nat_le}
use Rattle.std.specs.List.{AllPairs, list_any}
use Rattle.std.proofs.lemmas.Bool.{cases_Bool, and_parts, both_ways, eqb-true, leb-true}
use Rattle.std.proofs.lemmas.List.Edits.{length-swap}
use Rattle.tw_event.specs.declared.event.Body.{Body}
use Rattle.tw_event.specs.declared.event.Body.TheVariants.{Start, Fail, Restore, Swap, Forbid, Allow, Update}
use Rattle.tw_event.specs.declared.event.Event.{Event}
use Rattle.tw_event.specs.declared.event.PathNo.{PathNo}
use Rattle.tw_model.specs.Net.{is_own, paths_of}
use Rattle.tw_model.specs.Effect.{body_suits}
use Rattle.tw_model.specs.Case.{Case, IsCase, simulation}
use Rattle.tw_sim.specs.Simulation.{state}
use Rattle.tw_sim.proofs.Members.{In, any_from_in, in_append, in_from_any, place}
use Rattle.tw_model.proofs.Openings.{opening_suits}
use Rattle.tw_model.proofs.Paths.{distinct-swap, own_is_path, paths_of-distinct}
use Rattle.tw_model.proofs.Suits.{own_state}
use Rattle.tw_policy.specs.Search.{AreOnce, all_paths}
use Rattle.tw_policy.specs.Standing.{script_of, standing}
use Rattle.tw_policy.proofs.Lists.{same_number}
use Rattle.tw_policy.proofs.Robust.{order_after}
use Rattle.tw_policy.proofs.Stand.{Stand, stand, stand_after, stand_more}
use Rattle.tw_policy.proofs.Standing.{in_script}

abbrev pub AreDistinct : List PathNo → Type 0
AreDistinct xs = AllPairs (λ p q. p ≢ q) xs

pub once_of : (xs : List PathNo) → AreDistinct xs → AreOnce xs
once_of [] distinct = tt
once_of (x ∷ xs) distinct = (apart, once_of xs (λ i j d before within. distinct (suc i) (suc j) d (omega arith) (omega arith))) where
  apart : list_any (λ y. x.0 == y.0) xs ≡ false
  apart =
      elim (cases_Bool (list_any (λ y. x.0 == y.0) xs)) [
        | inr b ↦ b
        | inl b ↦ (
            let found = in_from_any (λ y. x.0 == y.0) xs b in
            let stands = place found.0 xs found.2 in
            let same : x ≡ get_or xs stands.0 x = same_number x found.0 (eqb-true x.0 (found.0).0 found.1) ∙ sym (stands.2 x) in
            absurd (distinct 0 (suc stands.0) x (omega arith) (let within = stands.1 in omega arith) same))
      ]

-- an order without repeats, with another path behind that is not there
once_behind : (xs : List PathNo) (z : PathNo) → AreOnce xs → ((x : PathNo) → In x xs → (x.0 == z.0) ≡ false) → AreOnce (xs ++ z ∷ [])
once_behind [] z once other = (refl, tt)
once_behind (x ∷ xs) z once other = (apart, once_behind xs z once.1 (λ y i. other y (inr i))) where
  apart : list_any (λ y. x.0 == y.0) (xs ++ z ∷ []) ≡ false
  apart =
      elim (cases_Bool (list_any (λ y. x.0 == y.0) (xs ++ z ∷ []))) [
        | inr b ↦ b
        | inl b ↦ (
            let found = in_from_any (λ y. x.0 == y.0) (xs ++ z ∷ []) b in
            elim (in_append found.0 xs (z ∷ []) found.2) [
              | inl k ↦ absurd (both_ways (list_any (λ y. x.0 == y.0) xs) once.0 (any_from_in (λ y. x.0 == y.0) found.0 xs found.1 k))
              | inr k ↦ grind arith
            ])
      ]

module _ (case : Case) (is : IsCase case) (v : ℕ) where
  -- an order of v with each of its paths once
  record IsOrdered (order : List PathNo) : Type 0 where
    pub distinct : AreDistinct order
    pub whole : length order ≡ length (paths_of case.net v)

  ordered_after : (e : Event) (b : Body) → body_suits case.net v e b ≡ true → (z : Stand) → IsOrdered z.order → IsOrdered (stand_after case.net v b z).order
  ordered_after e (Swap i j) suit z is = grind (arith, and_parts, nat_le, leb-true, distinct-swap, length-swap)
  ordered_after e Start suit z is = is
  ordered_after e (Fail w) suit z is = subst IsOrdered (sym (order_after case.net v (Fail w) z refl)) is
  ordered_after e (Restore w) suit z is = subst IsOrdered (sym (order_after case.net v (Restore w) z refl)) is
  ordered_after e (Forbid k) suit z is = subst IsOrdered (sym (order_after case.net v (Forbid k) z refl)) is
  ordered_after e (Allow k) suit z is = subst IsOrdered (sym (order_after case.net v (Allow k) z refl)) is
  ordered_after e (Update q n) suit z is = is

  ordered_along : (h : List Event) → ((e : Event) → In e h → (e.dst ≡ v) × (body_suits case.net v e e.body ≡ true)) → IsOrdered (state (simulation case) v h).order
  ordered_along [] all = record { distinct = paths_of-distinct case.net v; whole = refl }
  ordered_along (e ∷ h) all =
      let here = all e (inl refl) in
      subst (λ z. IsOrdered z.order) (sym (stand_more case is v e h here.0))
      (ordered_after e e.body here.1 (stand (state (simulation case) v h)) (ordered_along h (λ x k. all x (inr k))))

  pub standing_once : AreOnce (standing case v).order
  standing_once =
      once_of (standing case v).order (ordered_along (script_of case v) (λ e i.
      let k = in_script case is v e i in
      let suit = (and_parts (e.dst == e.dst) (body_suits case.net e.dst e e.body) (opening_suits case is e k.1)).1 in
      (k.0, subst (λ d. body_suits case.net d e e.body ≡ true) k.0 suit))).distinct

  pub standing_own : (q : PathNo) → In q (standing case v).order → is_own case.net v q ≡ true
  standing_own = (own_state case v (script_of case v) (λ e i. (in_script case is v e i).0)).order

  pub all_once : AreOnce (all_paths case.net (standing case) v)
  all_once = grind (arith, cases_Bool, once_behind, standing_once, standing_own, own_is_path, eqb-true)
