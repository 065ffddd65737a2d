-- The opening events of a case: each suits its router and stands once, and none is an update.
use Rattle.std.proofs.Common.{◌≡◌, ℕ, ◌+◌, ◌<◌, ◌≤◌, ◌==◌, Bool, true, false, ◌&&◌, List, [], ◌∷◌, refl, ap, sym, ◌∙◌, subst, ◌⊎◌, inl, inr, arith, nat_lt}
use Rattle.std.specs.List.{enumerate_from, flat_map}
use Rattle.std.proofs.lemmas.Bool.{cases_Bool, and_parts, and_from, eq-eqb, ltb-true, ltb-false, not-false}
use Rattle.tw_event.specs.declared.event.Body.TheVariants as body
use Rattle.tw_event.specs.declared.event.Event.{Event}
use Rattle.tw_event.specs.declared.event.PathNo.{PathNo}
use Rattle.tw_event.proofs.Order.{same_is}
use Rattle.tw_model.specs.declared.case.Scene.{Scene}
use Rattle.tw_model.specs.declared.case.Scene.TheVariants as scene
use Rattle.tw_model.specs.declared.rule.Rule.{Rule}
use Rattle.tw_model.specs.declared.rule.Rule.TheVariants.{Range, NoSuchLink, NoSuchPlace}
use Rattle.tw_model.specs.Net.{Net, joins}
use Rattle.tw_model.specs.Rules.{IsNet, ScenesFollow, has_line, has_place, is_linked, scene_breaks}
use Rattle.tw_model.specs.State.{has_peer}
use Rattle.tw_model.specs.Effect.{suits}
use Rattle.tw_sim.specs.Simulation.{times}
use Rattle.tw_model.specs.Case.{Case, IsCase, opening_event, opening_events, scene_events, simulation}
use Rattle.tw_sim.proofs.Counts.{none, times-append}
use Rattle.tw_sim.proofs.Members.{In, in_enumerate, in_flat_map, in_from_any, in_times}
use Rattle.tw_model.proofs.Nets.{has_peer_linked, is_link_of, joined_by, linked_back}
use Rattle.tw_model.proofs.Unbroken.{none_broken}
use Rattle.tw_model.proofs.Sends.{one_le}

scenes_kept : (net : Net) (count : ℕ) (scenes : List Scene) → ScenesFollow net count scenes → (s : Scene) → In s scenes
    → (n : ℕ) × ((r : Rule) → scene_breaks net n s r ≡ false)
scenes_kept net count (x ∷ scenes) h s (inl e) = (count, subst (λ z. (r : Rule) → scene_breaks net count z r ≡ false) (sym e) (none_broken (scene_breaks net count x) h.0))
scenes_kept net count (x ∷ scenes) h s (inr k) = scenes_kept net (count + 1) scenes h.1 s k
scenes_kept net count [] h s k = absurd k

-- the ends of a link: different, and neighbours of each other
pub record AreEnds (net : Net) (a b : ℕ) : Type 0 where
  pub first : a < net.nodes
  pub second : b < net.nodes
  pub apart : a ≡ b → ⊥
  pub there : has_peer net a b ≡ true
  pub back : has_peer net b a ≡ true

are_ends : (net : Net) → IsNet net → (a b : ℕ) → is_linked net.links a b ≡ true → AreEnds net a b
are_ends net is a b h =
    let l = in_from_any (joins a b) net.links h in
    let j = joined_by net a b l.0 (is_link_of net is l.0 l.2) l.1 in
    record { first = j.here; second = j.there; apart = j.apart; there = has_peer_linked net a b j.there h; back = has_peer_linked net b a j.here (sym (linked_back net.links a b) ∙ h) }

-- what the rules of a scenario give of a line
abbrev pub SceneFits : Net → Scene → Type 0
SceneFits net (scene.Fail t a b) = AreEnds net a b
SceneFits net (scene.Restore t a b) = AreEnds net a b
SceneFits net (scene.Swap t v i j) = (v < net.nodes) × (has_place net v i ≡ true) × (has_place net v j ≡ true)
SceneFits net (scene.Forbid t v k) = (v < net.nodes) × (has_line net v k ≡ true)
SceneFits net (scene.Allow t v k) = (v < net.nodes) × (has_line net v k ≡ true)

scene_fits : (net : Net) → IsNet net → (n : ℕ) (s : Scene) → ((r : Rule) → scene_breaks net n s r ≡ false) → SceneFits net s
scene_fits net is n (scene.Fail t a b) h = are_ends net is a b (not-false (is_linked net.links a b) (h NoSuchLink))
scene_fits net is n (scene.Restore t a b) h = are_ends net is a b (not-false (is_linked net.links a b) (h NoSuchLink))
scene_fits net is n (scene.Swap t v i j) h =
    let p = and_parts (has_place net v i) (has_place net v j) (not-false (has_place net v i && has_place net v j) (h NoSuchPlace)) in
    (ltb-true v net.nodes (not-false (nat_lt v net.nodes) (h Range)), p.0, p.1)
scene_fits net is n (scene.Forbid t v k) h = (ltb-true v net.nodes (not-false (nat_lt v net.nodes) (h Range)), not-false (has_line net v k) (h NoSuchPlace))
scene_fits net is n (scene.Allow t v k) h = (ltb-true v net.nodes (not-false (nat_lt v net.nodes) (h Range)), not-false (has_line net v k) (h NoSuchPlace))

pub scene_of : (case : Case) → IsCase case → (s : Scene) → In s case.scenes → SceneFits case.net s
scene_of case is s h =
    let k = scenes_kept case.net 0 case.scenes is.scenes s h in
    scene_fits case.net is.net k.0 s k.1

-- an opening event of a line: numbered by it, from its router to itself, no update, and one that suits
pub record IsOpening (net : Net) (n : ℕ) (x : Event) : Type 0 where
  pub seq : x.seq ≡ n
  pub src : x.src ≡ x.dst
  pub body : (q : PathNo) (k : ℕ) → x.body ≡ body.Update q k → ⊥
  pub suit : suits net x.dst x ≡ true

both_suit : (a : ℕ) (t : Bool) → t ≡ true → (a == a && (a == a && t)) ≡ true
both_suit a t h = and_from (a == a) (a == a && t) (eq-eqb a a refl) (and_from (a == a) t (eq-eqb a a refl) h)

is_opening : (net : Net) (n : ℕ) (s : Scene) → SceneFits net s → (x : Event) → In x (scene_events n s) → IsOpening net n x
is_opening net n (scene.Fail t a b) f x (inl e) =
    subst (IsOpening net n) (sym e) (record { seq = refl; src = refl; body = λ q k c. cc; suit = both_suit a (has_peer net a b) f.there })
is_opening net n (scene.Fail t a b) f x (inr (inl e)) =
    subst (IsOpening net n) (sym e) (record { seq = refl; src = refl; body = λ q k c. cc; suit = both_suit b (has_peer net b a) f.back })
is_opening net n (scene.Restore t a b) f x (inl e) =
    subst (IsOpening net n) (sym e) (record { seq = refl; src = refl; body = λ q k c. cc; suit = both_suit a (has_peer net a b) f.there })
is_opening net n (scene.Restore t a b) f x (inr (inl e)) =
    subst (IsOpening net n) (sym e) (record { seq = refl; src = refl; body = λ q k c. cc; suit = both_suit b (has_peer net b a) f.back })
is_opening net n (scene.Swap t v i j) f x (inl e) = grind arith
is_opening net n (scene.Forbid t v k) f x (inl e) =
    subst (IsOpening net n) (sym e) (record { seq = refl; src = refl; body = λ q l c. cc; suit = both_suit v (has_line net v k) f.1 })
is_opening net n (scene.Allow t v k) f x (inl e) =
    subst (IsOpening net n) (sym e) (record { seq = refl; src = refl; body = λ q l c. cc; suit = both_suit v (has_line net v k) f.1 })
is_opening net n (scene.Fail t a b) f x (inr (inr z)) = absurd z
is_opening net n (scene.Restore t a b) f x (inr (inr z)) = absurd z
is_opening net n (scene.Swap t v i j) f x (inr z) = absurd z
is_opening net n (scene.Forbid t v k) f x (inr z) = absurd z
is_opening net n (scene.Allow t v k) f x (inr z) = absurd z

module _ (case : Case) (is : IsCase case) where
  -- an opening event of the case: the origin's start, numbered 0, or one of a line, numbered from 1
  pub opening_of : (x : Event) → In x (opening_events case.scenes)
      → (x ≡ opening_event 0 0 0 body.Start) ⊎ ((l : ℕ × Scene) × In l (enumerate_from 1 case.scenes) × In x (scene_events l.0 l.1) × IsOpening case.net l.0 x)
  opening_of x (inl e) = inl e
  opening_of x (inr h) =
      let l = in_flat_map (λ l. scene_events l.0 l.1) x (enumerate_from 1 case.scenes) h in
      let k = in_enumerate l.0 1 case.scenes l.2 in
      inr (l.0, l.2, l.1, is_opening case.net l.0.0 l.0.1 (scene_of case is l.0.1 k.2) x l.1)

  pub opening_suits : (x : Event) → In x (opening_events case.scenes) → suits case.net x.dst x ≡ true
  opening_suits x h = elim (opening_of x h) [ inl e ↦ subst (λ z. suits case.net z.dst z ≡ true) (sym e) refl | inr o ↦ o.3.suit ]

  pub opening_own : (x : Event) → In x (opening_events case.scenes) → x.src ≡ x.dst
  opening_own x h = elim (opening_of x h) [ inl e ↦ ap (λ y. y.src) e ∙ sym (ap (λ y. y.dst) e) | inr l ↦ l.3.src ]

  pub opening_no_update : (x : Event) → In x (opening_events case.scenes) → (q : PathNo) (n : ℕ) → x.body ≡ body.Update q n → ⊥
  opening_no_update x h q n b = elim (opening_of x h) [
    | inl e ↦ (let c : body.Start ≡ body.Update q n = sym (ap (λ z. z.body) e) ∙ b in cc)
    | inr o ↦ o.3.body q n b
  ]

  pair_once : (x y z : Event) → (y ≡ z → ⊥) → times (simulation case) x (y ∷ z ∷ []) ≤ 1
  pair_once x y z apart =
      let first = one_le case x y in
      let second = one_le case x z in
      elim (cases_Bool ((simulation case).same x y)) [
        | inr b ↦ rw b (omega arith)
        | inl b ↦ elim (cases_Bool ((simulation case).same x z)) [
          | inr c ↦ rw c (omega arith)
          | inl c ↦ absurd (apart (sym (same_is x y b) ∙ same_is x z c))
        ]
      ]

  scene_once : (n : ℕ) (s : Scene) → SceneFits case.net s → (x : Event) → times (simulation case) x (scene_events n s) ≤ 1
  scene_once n (scene.Fail t a b) f x =
      pair_once x (opening_event n t a (body.Fail b)) (opening_event n t b (body.Fail a)) (λ e. f.apart (ap (λ z. z.dst) e))
  scene_once n (scene.Restore t a b) f x =
      pair_once x (opening_event n t a (body.Restore b)) (opening_event n t b (body.Restore a)) (λ e. f.apart (ap (λ z. z.dst) e))
  scene_once n (scene.Swap t v i j) f x = let first = one_le case x (opening_event n t v (body.Swap i j)) in omega arith
  scene_once n (scene.Forbid t v k) f x = let first = one_le case x (opening_event n t v (body.Forbid k)) in omega arith
  scene_once n (scene.Allow t v k) f x = let first = one_le case x (opening_event n t v (body.Allow k)) in omega arith

  -- events of lines from n on have numbers from n on, and stand once
  scenes_number : (n : ℕ) (scenes : List Scene) → ((s : Scene) → In s scenes → SceneFits case.net s) → (x : Event)
      → In x (flat_map (λ l. scene_events l.0 l.1) (enumerate_from n scenes)) → n ≤ x.seq
  scenes_number n scenes fit x h = grind (arith, in_flat_map, in_enumerate, is_opening)

  never : (x : Event) (xs : List Event) → (In x xs → ⊥) → times (simulation case) x xs ≡ 0
  never x xs h = none (times (simulation case) x xs) (λ k. h (in_times (simulation case) same_is x xs k))

  scenes_once : (n : ℕ) (scenes : List Scene) → ((s : Scene) → In s scenes → SceneFits case.net s) → (x : Event)
      → times (simulation case) x (flat_map (λ l. scene_events l.0 l.1) (enumerate_from n scenes)) ≤ 1
  scenes_once n [] fit x = omega arith
  scenes_once n (s ∷ scenes) fit x =
      let others = flat_map (λ l. scene_events l.0 l.1) (enumerate_from (n + 1) scenes) in
      let both = times-append (simulation case) x (scene_events n s) others in
      let first = scene_once n s (fit s (inl refl)) x in
      let more = scenes_once (n + 1) scenes (λ z k. fit z (inr k)) x in
      elim (cases_Bool (nat_lt 0 (times (simulation case) x (scene_events n s)))) [
        | inr b ↦ (let no_first = ltb-false 0 (times (simulation case) x (scene_events n s)) b in omega arith)
        | inl b ↦ (
            let here = in_times (simulation case) same_is x (scene_events n s) (ltb-true 0 (times (simulation case) x (scene_events n s)) b) in
            let number = (is_opening case.net n s (fit s (inl refl)) x here).seq in
            let no_more = never x others (λ k. let later = scenes_number (n + 1) scenes (λ z q. fit z (inr q)) x k in absurd (omega arith)) in
            omega arith)
      ]

  -- no opening event stands twice
  pub openings_once : (x : Event) → times (simulation case) x (opening_events case.scenes) ≤ 1
  openings_once x =
      let others = flat_map (λ l. scene_events l.0 l.1) (enumerate_from 1 case.scenes) in
      let more = scenes_once 1 case.scenes (scene_of case is) x in
      elim (cases_Bool ((simulation case).same x (opening_event 0 0 0 body.Start))) [
        | inr b ↦ rw b (omega arith)
        | inl b ↦ rw b (
            let number : x.seq ≡ 0 = ap (λ e. e.seq) (same_is x (opening_event 0 0 0 body.Start) b) in
            let no_more = never x others (λ k. let later = scenes_number 1 case.scenes (scene_of case is) x k in absurd (omega arith)) in
            omega arith)
      ]
