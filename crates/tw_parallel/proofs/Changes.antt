-- When a path of a run changed last, by routers.
use Rattle.std.proofs.Common.{◌≡◌, ℕ, zero, suc, ◌+◌, ◌<◌, ◌≤◌, ◌==◌, Bool, not, true, false, List, [], ◌∷◌, filter, if◌then◌else◌, refl, ap, sym, subst, ◌∙◌, inl, inr, arith}
use Rattle.std.proofs.Math.Path.{fun_ext}
use Rattle.std.proofs.lemmas.Bool.{cases_Bool, cases_eq, eq-eqb, ne_eqb}
use Rattle.std.specs.List.{range_with_len}
use Rattle.tw_event.specs.declared.event.Event.{Event}
use Rattle.tw_model.proofs.Lawful.{lawful}
use Rattle.tw_model.specs.Case.{Case, IsCase, simulation}
use Rattle.tw_model.specs.Effect.{effect}
use Rattle.tw_model.specs.Quiet.{changes, last_change}
use Rattle.tw_model.specs.State.{State}
use Rattle.tw_shard.proofs.Shares.{known_state}
use Rattle.tw_shard.specs.Shards.{greatest}
use Rattle.tw_shard.specs.Timeline.{changes_path, last_change_at}
use Rattle.tw_sim.proofs.Counts.{in_cons, in_head}
use Rattle.tw_sim.specs.Simulation.{IsFalling, only, times}

-- ---- the greatest of some numbers

-- it is at most what each of them is at most
greatest_most : (f : ℕ → ℕ) (most : ℕ) (rs : List ℕ) → ((r : ℕ) → f r ≤ most) → greatest f rs ≤ most
greatest_most f most [] h = omega arith
greatest_most f most (r ∷ rs) h = let here = h r in let more = greatest_most f most rs h in omega arith

-- and at least each of them
greatest_least : (f : ℕ → ℕ) (from n r : ℕ) → from ≤ r → r < from + n → f r ≤ greatest f (range_with_len from n)
greatest_least f from zero r least most = absurd (omega arith)
greatest_least f from (suc n) r least most =
    elim (cases_eq r from) [
      | inl here ↦ (let same : f r ≡ f from = ap f here in omega arith)
      | inr later ↦ (let more = greatest_least f (from + 1) n r (grind arith) (omega arith) in omega arith)
    ]

-- what passes a test passes it again
filter_twice : {X : Type 0} (p : X → Bool) (xs : List X) → filter p (filter p xs) ≡ filter p xs
filter_twice p [] = refl
filter_twice p (x ∷ xs) =
    elim (cases_Bool (p x)) [
      | inl passes ↦ (
          let here : filter p (x ∷ xs) ≡ x ∷ filter p xs = rw passes refl in
          let again : filter p (x ∷ filter p xs) ≡ x ∷ filter p (filter p xs) = rw passes refl in
          ap (filter p) here ∙ (again ∙ (ap (λ ys. x ∷ ys) (filter_twice p xs) ∙ sym here)))
      | inr fails ↦ (
          let here : filter p (x ∷ xs) ≡ filter p xs = rw fails refl in
          ap (filter p) here ∙ (filter_twice p xs ∙ sym here))
    ]

-- ---- the events of all routers

module _ (case : Case) (is : IsCase case) where
  -- no change of a router is later than all events
  no_later : (t r : ℕ) (events : List Event) → ((e : Event) → 0 < times (simulation case) e events → e.time ≤ t) → last_change_at case.net r (only (simulation case) r events) ≤ t
  no_later t r [] h = omega arith
  no_later t r (e ∷ older) h =
      let m = simulation case in
      let rest = no_later t r older (λ x there. h x (omega arith)) in
      let here = h e (in_head m (lawful case is) e older) in
      elim (cases_Bool (e.dst == r)) [
        | inl mine ↦ rw mine (elim (cases_Bool (changes_path case.net r e (only m r older))) [
          | inl changed ↦ rw changed here
          | inr kept ↦ rw kept rest
        ])
        | inr others ↦ rw others rest
      ]

  -- whether an event changes a path is told by its router's own history
  own_change : (e : Event) (older : List Event) → changes_path case.net e.dst e (only (simulation case) e.dst older) ≡ changes case e older
  own_change e older =
      ap (λ (s : State). not (s.rib.0 == (effect case.net e.dst s e).state.rib.0)) (known_state case e.dst (only (simulation case) e.dst older))

  -- so that of a router's events the last change of a path is its own
  pub last_own : (r : ℕ) (events : List Event) → last_change case (only (simulation case) r events) ≡ last_change_at case.net r (only (simulation case) r events)
  last_own r [] = refl
  last_own r (e ∷ older) =
      let m = simulation case in
      elim (cases_eq e.dst r) [
        | inl mine ↦ subst (λ r. last_change case (only m r (e ∷ older)) ≡ last_change_at case.net r (only m r (e ∷ older))) mine
            (let h = only m e.dst older in
            let here : only m e.dst (e ∷ older) ≡ e ∷ h = rw (eq-eqb e.dst e.dst refl) refl in
            let same : changes case e h ≡ changes_path case.net e.dst e h
            = sym (own_change e h) ∙ ap (changes_path case.net e.dst e) (filter_twice (λ (x : Event). x.dst == e.dst) older) in
            let more = last_own e.dst older in
            ap (last_change case) here ∙ ((λ i. if same i then e.time else more i) ∙ sym (ap (last_change_at case.net e.dst) here)))
        | inr others ↦ (
            let here : only m r (e ∷ older) ≡ only m r older = rw (ne_eqb e.dst r others) refl in
            ap (last_change case) here ∙ (last_own r older ∙ sym (ap (last_change_at case.net r) here)))
      ]

  -- an event that changes no path changes none of a router
  kept_change : (e : Event) (older : List Event) (r : ℕ) → changes case e older ≡ false
      → last_change_at case.net r (only (simulation case) r (e ∷ older)) ≡ last_change_at case.net r (only (simulation case) r older)
  kept_change e older r kept =
      elim (cases_eq e.dst r) [
        | inl mine ↦ subst (λ r. last_change_at case.net r (only (simulation case) r (e ∷ older)) ≡ last_change_at case.net r (only (simulation case) r older)) mine
            (rw (eq-eqb e.dst e.dst refl, own_change e older, kept) refl)
        | inr others ↦ rw (ne_eqb e.dst r others) refl
      ]

  -- one that does is its router's last change
  new_change : (e : Event) (older : List Event) → changes case e older ≡ true → last_change_at case.net e.dst (only (simulation case) e.dst (e ∷ older)) ≡ e.time
  new_change e older changed = rw (eq-eqb e.dst e.dst refl, own_change e older, changed) refl

  -- the last change of a path is the greatest of those of the routers
  pub last_of_all : (events : List Event) → IsFalling (simulation case) events → ((e : Event) → 0 < times (simulation case) e events → e.dst < case.net.nodes)
      → greatest (λ r. last_change_at case.net r (only (simulation case) r events)) (range_with_len 0 case.net.nodes) ≡ last_change case events
  last_of_all [] falling there =
      let most = greatest_most (λ r. 0) 0 (range_with_len 0 case.net.nodes) (λ r. omega arith) in omega arith
  last_of_all (e ∷ older) falling there =
      let m = simulation case in
      let nodes = case.net.nodes in
      let read = λ (r : ℕ). last_change_at case.net r (only m r (e ∷ older)) in
      elim (cases_Bool (changes case e older)) [
        | inl changed ↦ (
            let in_time : (x : Event) → 0 < times m x (e ∷ older) → x.time ≤ e.time = λ x h. elim (in_cons m (lawful case is) x e older h) [
              | inl same ↦ (let time : x.time ≡ e.time = ap (λ (x : Event). x.time) same in omega arith)
              | inr past ↦ (lawful case is).timely x e (falling.0 x past)
            ] in
            let most = greatest_most read e.time (range_with_len 0 nodes) (λ r. no_later e.time r (e ∷ older) in_time) in
            let new = new_change e older changed in
            let home = there e (in_head m (lawful case is) e older) in
            let least = greatest_least read 0 nodes e.dst (omega arith) (omega arith) in
            let told : last_change case (e ∷ older) ≡ e.time = rw changed refl in
            omega arith)
        | inr kept ↦ (
            let told : last_change case (e ∷ older) ≡ last_change case older = rw kept refl in
            ap (λ f. greatest f (range_with_len 0 nodes)) (fun_ext (λ r. kept_change e older r kept))
            ∙ (last_of_all older falling.1 (λ x h. there x (omega arith)) ∙ sym told))
      ]
