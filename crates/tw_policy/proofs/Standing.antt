-- The scripted events of a router, the newest first, have what every history has that holds them all.
use Rattle.std.proofs.Common.{◌≡◌, ℕ, ◌<◌, ◌≤◌, ◌==◌, Bool, List, [], ◌∷◌, ◌++◌, reverse, append-nil, filter, refl, subst, inl, inr, arith, sym, true, ap, ◌∙◌}
use Rattle.std.proofs.lemmas.Bool.{cases_Bool, eqb-true, eq-eqb}
use Rattle.tw_event.specs.declared.event.Event.{Event}
use Rattle.tw_event.proofs.Order.{before_not_self, before_total, before_trans, same_is, same_self}
use Rattle.tw_model.specs.Case.{Case, IsCase, opening_events, simulation}
use Rattle.tw_sim.specs.Ordered as ordered
use Rattle.tw_sim.specs.Rising.{IsRising}
use Rattle.tw_sim.specs.Simulation.{state, times}
use Rattle.tw_sim.proofs.Members.{In, in_append, in_filter, in_filtered, in_left, in_right, in_times, times_in}
use Rattle.tw_sim.proofs.Ordered.{IsOrder, rising-insert_all, times-insert_all}
use Rattle.tw_model.proofs.LinkHeard.{Falls}
use Rattle.tw_model.proofs.Openings.{openings_once}
use Rattle.tw_event.specs.Order.{event_before}
use Rattle.tw_model.specs.History.{state_after}
use Rattle.tw_model.specs.State.{opening}
use Rattle.tw_sim.proofs.Counts.{is_order}
use Rattle.tw_model.proofs.Agreed.{same_falls}
use Rattle.tw_model.proofs.Histories.{onward}
use Rattle.tw_model.proofs.Lawful.{lawful}
use Rattle.std.proofs.lemmas.List.{reverse-append}
use Rattle.tw_policy.specs.Standing.{script_of, standing}
use Rattle.tw_policy.proofs.Stand.{HasWholeScript, same_stand, stand}

module _ (case : Case) (is : IsCase case) where
  -- the later event first
  abbrev back : Event → Event → Bool
  back x y = (simulation case).before y x

  order : IsOrder back (simulation case).same
  order = record {
    not_self = before_not_self;
    trans = λ x y z a b. before_trans z y x b a;
    total = λ x y a b. before_total x y b a;
    same_is = same_is;
    same_self = same_self;
  }

  -- what descends, with no event twice, falls
  falls_of : (xs : List Event) → IsRising back (simulation case).same xs → ((e : Event) → times (simulation case) e xs ≤ 1) → Falls xs
  falls_of [] up once = tt
  falls_of (x ∷ xs) up once = (
    (λ e i. elim (cases_Bool ((simulation case).before e x)) [
      | inl b ↦ b
      | inr b ↦ (
          let there = times_in (simulation case) same_self e xs i in
          let same : e ≡ x = before_total e x b (up.0 e there) in
          let first = times_in (simulation case) same_self x (x ∷ []) (inl refl) in
          let second : 0 < times (simulation case) x xs = subst (λ z. 0 < times (simulation case) z xs) same there in
          let few = once x in
          absurd (omega arith))
    ]),
    falls_of xs up.1 (λ e. let few = once e in omega arith),
  )

  times_filter : (p : Event → Bool) (e : Event) (xs : List Event) → times (simulation case) e (filter p xs) ≤ times (simulation case) e xs
  times_filter p e [] = omega arith
  times_filter p e (x ∷ xs) = grind (arith, cases_Bool, times_filter p e xs)

  -- the scripted events of v, in the order given
  abbrev mine : ℕ → List Event
  mine v = filter (λ e. e.dst == v) (opening_events case.scenes)

  times_script : (v : ℕ) (e : Event) → times (simulation case) e (script_of case v) ≡ times (simulation case) e (mine v)
  times_script v e = let all = times-insert_all back (simulation case).same e (mine v) [] in omega arith

  pub in_script : (v : ℕ) (e : Event) → In e (script_of case v) → (e.dst ≡ v) × In e (opening_events case.scenes)
  in_script v e i =
      let counted = times_in (simulation case) same_self e (script_of case v) i in
      let same = times_script v e in
      let there = in_filter (λ x. x.dst == v) e (opening_events case.scenes) (in_times (simulation case) same_is e (mine v) (omega arith)) in
      (eqb-true e.dst v there.0, there.1)

  script_has : (v : ℕ) (e : Event) → In e (opening_events case.scenes) → e.dst ≡ v → In e (script_of case v)
  script_has v e i d =
      let counted = times_in (simulation case) same_self e (mine v) (in_filtered (λ x. x.dst == v) e (opening_events case.scenes) (eq-eqb e.dst v d) i) in
      let same = times_script v e in
      in_times (simulation case) same_is e (script_of case v) (omega arith)

  pub whole_script : (v : ℕ) → HasWholeScript case is v (script_of case v)
  whole_script v = record {
    falls = falls_of (script_of case v) (rising-insert_all back (simulation case).same order (mine v) [] tt)
        (λ e. let same = times_script v e in let fewer = times_filter (λ x. x.dst == v) e (opening_events case.scenes) in let once = openings_once case is e in omega arith);
    home = λ e i. (in_script v e i).0;
    opened = λ e i d. script_has v e i d;
    scripted = λ e i b. (in_script v e i).1;
  }

  pub stands : (v : ℕ) (h : List Event) → HasWholeScript case is v h → stand (state (simulation case) v h) ≡ stand (standing case v)
  stands v h whole = same_stand case is v h (script_of case v) whole (whole_script v)

  -- ---- the script handled, the oldest event first

  in_reverse : (e : Event) (xs : List Event) → In e (reverse xs) → In e xs
  in_reverse e [] i = absurd i
  in_reverse e (x ∷ xs) i =
      elim (in_append e (reverse xs) (x ∷ []) (subst (In e) (reverse-append (x ∷ []) xs) i)) [
        | inl k ↦ inr (in_reverse e xs k)
        | inr k ↦ elim k [ inl same ↦ inl same | inr none ↦ absurd none ]
      ]

  reverse_in : (e : Event) (xs : List Event) → In e xs → In e (reverse xs)
  reverse_in e (x ∷ xs) (inl same) = subst (In e) (sym (reverse-append (x ∷ []) xs)) (in_right e (reverse xs) (x ∷ []) (inl same))
  reverse_in e (x ∷ xs) (inr k) = subst (In e) (sym (reverse-append (x ∷ []) xs)) (in_left e (reverse xs) (x ∷ []) (reverse_in e xs k))
  reverse_in e [] k = absurd k

  falls_behind : (ys : List Event) (x : Event) → Falls ys → ((y : Event) → In y ys → event_before x y ≡ true) → Falls (ys ++ x ∷ [])
  falls_behind [] x f after = ((λ e none. absurd none), tt)
  falls_behind (y ∷ ys) x f after = (
    (λ e i. elim (in_append e ys (x ∷ []) i) [
      | inl k ↦ f.0 e k
      | inr k ↦ elim k [ inl same ↦ subst (λ z. event_before z y ≡ true) (sym same) (after y (inl refl)) | inr none ↦ absurd none ]
    ]),
    falls_behind ys x f.1 (λ z k. after z (inr k)),
  )

  -- what ascends, with no event twice, falls the other way round
  falls_reverse : (xs : List Event) → IsRising (simulation case).before (simulation case).same xs → ((e : Event) → times (simulation case) e xs ≤ 1) → Falls (reverse xs)
  falls_reverse [] up once = tt
  falls_reverse (x ∷ xs) up once =
      subst Falls (sym (reverse-append (x ∷ []) xs)) (falls_behind (reverse xs) x (falls_reverse xs up.1 (λ e. let few = once e in omega arith))
      (λ y i. elim (cases_Bool (event_before x y)) [
        | inl b ↦ b
        | inr b ↦ (
            let there = times_in (simulation case) same_self y xs (in_reverse y xs i) in
            let same : x ≡ y = before_total x y b (up.0 y there) in
            let first = times_in (simulation case) same_self x (x ∷ []) (inl refl) in
            let second : 0 < times (simulation case) x xs = subst (λ z. 0 < times (simulation case) z xs) (sym same) there in
            let few = once x in
            absurd (omega arith))
      ]))

  pub handled_in_order : (v : ℕ) (events : List Event) → IsRising (simulation case).before (simulation case).same events
      → ((e : Event) → times (simulation case) e events ≡ times (simulation case) e (mine v)) → standing case v ≡ state_after case.net v (opening case.net v) events
  handled_in_order v events up counts =
      let few = λ (e : Event).
      (let same = counts e in
      let fewer = times_filter (λ x. x.dst == v) e (opening_events case.scenes) in
      let once = openings_once case is e in
      let goal : times (simulation case) e events ≤ 1 = omega arith in
      goal) in
      let from_script = λ (e : Event) (i : In e (script_of case v)).
      (let counted = times_in (simulation case) same_self e (script_of case v) i in
      let same = times_script v e in
      let also = counts e in
      let there : In e events = in_times (simulation case) same_is e events (omega arith) in
      there) in
      let to_script = λ (e : Event) (i : In e events).
      (let counted = times_in (simulation case) same_self e events i in
      let same = times_script v e in
      let also = counts e in
      let there : In e (script_of case v) = in_times (simulation case) same_is e (script_of case v) (omega arith) in
      there) in
      let same : script_of case v ≡ reverse events = same_falls case is (script_of case v) (reverse events) (whole_script v).falls (falls_reverse events up few)
      (λ e i. reverse_in e events (from_script e i)) (λ e i. to_script e (in_reverse e events i)) in
      ap (state (simulation case) v) (same ∙ sym (append-nil (reverse events)))
      ∙ onward case v events [] (λ e i. (in_script v e (to_script e i)).0)

  -- the scripted events of v in their order
  pub handled_ordered : (v : ℕ) → standing case v ≡ state_after case.net v (opening case.net v) (ordered.insert_all (simulation case).before (mine v) [])
  handled_ordered v =
      handled_in_order v (ordered.insert_all (simulation case).before (mine v) [])
      (rising-insert_all (simulation case).before (simulation case).same (is_order (simulation case) (lawful case is)) (mine v) [] tt)
      (λ e. let all = times-insert_all (simulation case).before (simulation case).same e (mine v) [] in omega arith)
