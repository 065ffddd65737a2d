-- Where a script leaves the ranks as they are, each router ranks its paths as they were given.
use Rattle.std.proofs.Common.{arith, ◌≡◌, ℕ, ◌-◌, Bool, true, false, List, [], ◌∷◌, get_or, refl, ap, sym, ◌∙◌, inl, inr}
use Rattle.std.proofs.lemmas.Bool.{cases_Bool, false≢true}
use Rattle.tw_event.specs.declared.event.Body.{Body}
use Rattle.tw_event.specs.declared.event.Body.TheVariants.{Start, Fail, Restore, Swap, Forbid, Allow, Update}
use Rattle.tw_event.specs.declared.event.Event.{Event}
use Rattle.tw_event.specs.declared.event.PathNo.{PathNo}
use Rattle.tw_model.specs.declared.case.Scene.{Scene}
use Rattle.tw_model.specs.declared.case.Scene.TheVariants as scene
use Rattle.tw_model.specs.Net.{Net}
use Rattle.tw_model.specs.State.{opening, slot}
use Rattle.tw_model.specs.Case.{Case, IsCase, opening_events, scene_events, simulation}
use Rattle.tw_sim.specs.Simulation.{state}
use Rattle.tw_sim.proofs.Members.{In, in_enumerate, in_from_all}
use Rattle.tw_model.proofs.Openings.{opening_of}
use Rattle.tw_policy.specs.OneList.{IsOneList, LeavesRanks, exchanges}
use Rattle.tw_policy.specs.Standing.{script_of, standing}
use Rattle.tw_policy.proofs.Stand.{Stand, stand, stand_after, stand_more}
use Rattle.tw_policy.proofs.Standing.{in_script}

-- whether the event exchanges two ranks
abbrev pub swaps : Body → Bool
swaps Start = false
swaps (Fail w) = false
swaps (Restore w) = false
swaps (Swap i j) = true
swaps (Forbid k) = false
swaps (Allow k) = false
swaps (Update q n) = false

pub order_after : (net : Net) (v : ℕ) (b : Body) (z : Stand) → swaps b ≡ false → (stand_after net v b z).order ≡ z.order
order_after net v Start z h = refl
order_after net v (Fail w) z h = elim (cases_Bool (get_or z.ups (slot net v w) true)) [ inl b ↦ rw b refl | inr b ↦ rw b refl ]
order_after net v (Restore w) z h = elim (cases_Bool (get_or z.ups (slot net v w) true)) [ inl b ↦ rw b refl | inr b ↦ rw b refl ]
order_after net v (Swap i j) z h = absurd (false≢true (sym h))
order_after net v (Forbid k) z h = elim (cases_Bool (get_or z.barred (k - 1) false)) [ inl b ↦ rw b refl | inr b ↦ rw b refl ]
order_after net v (Allow k) z h = elim (cases_Bool (get_or z.barred (k - 1) false)) [ inl b ↦ rw b refl | inr b ↦ rw b refl ]
order_after net v (Update q n) z h = refl

no_swap : (n : ℕ) (s : Scene) → exchanges s ≡ false → (x : Event) → In x (scene_events n s) → swaps x.body ≡ false
no_swap n (scene.Fail t a b) h x (inl e) = ap (λ z. swaps z.body) e
no_swap n (scene.Fail t a b) h x (inr (inl e)) = ap (λ z. swaps z.body) e
no_swap n (scene.Restore t a b) h x (inl e) = ap (λ z. swaps z.body) e
no_swap n (scene.Restore t a b) h x (inr (inl e)) = ap (λ z. swaps z.body) e
no_swap n (scene.Swap t v i j) h x k = absurd (false≢true (sym h))
no_swap n (scene.Forbid t v k) h x (inl e) = ap (λ z. swaps z.body) e
no_swap n (scene.Allow t v k) h x (inl e) = ap (λ z. swaps z.body) e
no_swap n (scene.Fail t a b) h x (inr (inr z)) = absurd z
no_swap n (scene.Restore t a b) h x (inr (inr z)) = absurd z
no_swap n (scene.Forbid t v k) h x (inr z) = absurd z
no_swap n (scene.Allow t v k) h x (inr z) = absurd z

module _ (case : Case) (is : IsCase case) (keeps : LeavesRanks case) where
  opening_no_swap : (x : Event) → In x (opening_events case.scenes) → swaps x.body ≡ false
  opening_no_swap x i =
      elim (opening_of case is x i) [
        | inl e ↦ ap (λ z. swaps z.body) e
        | inr o ↦ (
            let l = o.0 in
            let there = in_enumerate l 1 case.scenes o.1 in
            no_swap l.0 l.1 (in_from_all (λ s. exchanges s ≡ false) case.scenes keeps l.1 there.2) x o.2)
      ]

  order_along : (v : ℕ) (h : List Event) → ((e : Event) → In e h → (e.dst ≡ v) × (swaps e.body ≡ false)) → (state (simulation case) v h).order ≡ (opening case.net v).order
  order_along v [] all = refl
  order_along v (e ∷ h) all =
      let here = all e (inl refl) in
      ap (λ z. z.order) (stand_more case is v e h here.0)
      ∙ (order_after case.net v e.body (stand (state (simulation case) v h)) here.1 ∙ order_along v h (λ x k. all x (inr k)))

  order_kept : (v : ℕ) → (standing case v).order ≡ (opening case.net v).order
  order_kept v = order_along v (script_of case v) (λ e i. let k = in_script case is v e i in (k.0, opening_no_swap e k.1))

  -- one list of the paths as they were given is one list of the paths as the routers stand
  pub still_one_list : (place : PathNo → ℕ) → IsOneList case.net (opening case.net) place → IsOneList case.net (standing case) place
  still_one_list place one = grind (arith, order_kept)
