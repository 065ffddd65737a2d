-- What is told where elimination leaves a choice is a dispute wheel.
use Rattle.std.proofs.Common.{◌≡◌, ℕ, ◌<◌, ◌≤◌, true, false, List, [], ◌∷◌, get_or, Global, length, map, Option, Some, None, refl, ap, sym, ◌∙◌, subst, arith, nat_lt}
use Rattle.std.specs.declared.vec.Vec.{Vec}
use Rattle.std.specs.List.{find, range_with_len}
use Rattle.std.proofs.lemmas.Bool.{false≢true, lt-ltb}
use Rattle.std.proofs.lemmas.List.{get_or_past}
use Rattle.std.proofs.lemmas.List.FromFn.{get_or-map-range_with_len, length-map-range_with_len}
use Rattle.tw_event.specs.declared.event.PathNo.{PathNo}
use Rattle.tw_instance.specs.Tables.{items, row}
use Rattle.tw_model.specs.Case.{Case, IsCase}
use Rattle.tw_model.specs.Net.{Net}
use Rattle.tw_sim.proofs.Members.{any_from_in, find_some, in_find, in_range, range_has}
use Rattle.tw_policy.specs.Search.{has_choice}
use Rattle.tw_policy.specs.Standing.{standing}
use Rattle.tw_policy.proofs.Cases.{standing_own}
use Rattle.tw_elimination.specs.Bound.{is_solved}
use Rattle.tw_elimination.specs.Rounds.{AreLeft, Eliminated, left_in, rounds_of}
use Rattle.tw_elimination.specs.declared.wheel.Pivot.{Pivot as Told}
use Rattle.tw_elimination.specs.Wheel.{AreWheel, lists_in, pivot_of, ring_of, wheel_in, wheel_of}
use Rattle.tw_elimination.proofs.Bounds.{at_halt, halted_there, last_left, one_each, some_choice}
use Rattle.tw_elimination.proofs.Ring.{ring_wheel}

module _ (case : Case) (n : ℕ) where
  abbrev routers : List ℕ
  routers = range_with_len 0 case.net.nodes

  pub list_at : (v : ℕ) → v < case.net.nodes → lists_in case n v ≡ left_in case n v
  list_at v low = get_or-map-range_with_len (left_in case n) 0 case.net.nodes v v [] low (omega arith)

  no_list : (v : ℕ) → case.net.nodes ≤ v → lists_in case n v ≡ []
  no_list v high =
      let long = length-map-range_with_len (left_in case n) 0 case.net.nodes in
      get_or_past (map (left_in case n) routers) v [] (omega arith)

  -- nothing is told where each router has one path left
  pub told_none : is_solved case n ≡ true → wheel_of case n ≡ []
  unfolding wheel_of
  told_none solved = at (find (has_choice (lists_in case n)) routers) refl where
    at : (o : Option ℕ) → find (has_choice (lists_in case n)) routers ≡ o → ring_of case.net (lists_in case n) (find (has_choice (lists_in case n)) routers) ≡ []
    at None e = ap (ring_of case.net (lists_in case n)) e
    at (Some v) e =
        let met = in_find (has_choice (lists_in case n)) v routers e in
        let within = in_range v 0 case.net.nodes met.1 in
        let one = one_each case n solved v (omega arith) in
        let choice : nat_lt 1 (length (one.0 ∷ [])) ≡ true = subst (λ xs. nat_lt 1 (length xs) ≡ true) (list_at v (omega arith) ∙ one.1) met.0 in
        absurd (false≢true choice)

  -- these lists lead to the wheel that is told
  pub told_by : (all : List (List PathNo)) → AreLeft case n all → wheel_in case.net (λ v. get_or all v []) ≡ wheel_of case n
  unfolding wheel_of
  told_by all are = ap (λ xs. wheel_in case.net (λ v. get_or xs v [])) are

-- what is told at the halt where some router has a choice
pub told_wheel : (case : Case) → IsCase case → is_solved case (rounds_of case) ≡ false → AreWheel case.net (standing case) (wheel_of case (rounds_of case))
unfolding wheel_of
told_wheel case is other =
    let n = rounds_of case in
    let lists = lists_in case n in
    let c = some_choice case other in
    let here : lists c.0 ≡ at_halt case c.0 = list_at case n c.0 c.1 ∙ sym (last_left case c.0 c.1) in
    let choice : has_choice lists c.0 ≡ true = subst (λ xs. nat_lt 1 (length xs) ≡ true) (sym here) (lt-ltb 1 (length (at_halt case c.0)) c.2) in
    let found = find_some (has_choice lists) (routers case n) (any_from_in (has_choice lists) c.0 (routers case n) choice (range_has c.0 0 case.net.nodes (omega arith) (let low = c.1 in omega arith))) in
    let met = in_find (has_choice lists) found.0 (routers case n) found.1 in
    subst (λ o. AreWheel case.net (standing case) (ring_of case.net lists o)) (sym found.1)
    (ring_wheel case.net is.net (standing case) (standing_own case is) (at_halt case) (halted_there case) lists
    (λ v low. list_at case n v low ∙ sym (last_left case v low)) (no_list case n) found.0 met.0)

pub told_there : (case : Case) (n : ℕ) → IsCase case → n ≡ rounds_of case → is_solved case n ≡ false → AreWheel case.net (standing case) (wheel_of case n)
told_there case n is at other = subst (λ m. AreWheel case.net (standing case) (wheel_of case m)) (sym at) (told_wheel case is (ap (is_solved case) (sym at) ∙ other))

-- what the kept lists lead to
pub told_at : (case : Case) (n : ℕ) (left rows : List (Vec PathNo Global)) (net : Net) (e : Eliminated) → AreLeft case n (items left) → rows ≡ left → net ≡ case.net
    → (let d : Eliminated = record { case = case; rounds = n } in d) ≡ e → wheel_in net (row rows) ≡ wheel_of e.case e.rounds
told_at case n left rows net e are same nets view =
    ap (λ m. wheel_in m (row rows)) nets
    ∙ (ap (λ (xs : List (Vec PathNo Global)). wheel_in case.net (row xs)) same ∙ (told_by case n (items left) are ∙ ap (λ (x : Eliminated). wheel_of x.case x.rounds) view))

pub none_told : (pivots : List Told) → map pivot_of pivots ≡ [] → pivots ≡ []
none_told [] none = refl
none_told (p ∷ pivots) none = absurd (cc)
