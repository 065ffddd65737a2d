-- The lists of a part and of the rest, together in order: what goes in, goes out and is counted.
use Rattle.std.proofs.Common.{◌≡◌, ℕ, ◌+◌, ◌<◌, ◌==◌, true, false, not, List, [], ◌∷◌, ◌++◌, nat_lt, Option, Some, None, if◌then◌else◌, refl, ap, sym, ◌∙◌, inl, inr, arith}
use Rattle.std.proofs.lemmas.Bool.{cases_Bool, cases_eq}
use Rattle.tw_core.specs.Steps.{from, from_others, held_back, still_held, take_out, to_send}
use Rattle.tw_sim.specs.declared.machine.Cancel.{Cancel}
use Rattle.tw_sim.specs.declared.machine.Cancel.TheVariants.{Aggressive, Lazy}
use Rattle.tw_sim.specs.Ordered.{least}
use Rattle.tw_sim.specs.Seq.{insert, insert_all}
use Rattle.tw_sim.specs.Simulation.{IsLawful, Simulation, times}
use Rattle.tw_sim.proofs.Counts.{in_head, none, times-append, times-filter-no, times-filter-yes, times-insert, times-insert_all, times-take_out, times-take_out-le}
use Rattle.tw_sim.proofs.Least.{least_is}
use Rattle.tw_sim.proofs.Ordered as plain
use Rattle.tw_sim.proofs.Counts.{is_order}
use Rattle.tw_sim.proofs.Rising.{IsRising, rising-filter, rising-insert_all, same_rising}

module _ {S E : Type 0} (m : Simulation S E) where
  -- a list in order
  abbrev pub in_order : List E → List E
  in_order xs = insert_all m xs []

  -- none of these is held for the rest
  abbrev pub AreNotHeld : List E → List E → Type 0
  AreNotHeld xs P = (x : E) → 0 < times m x xs → times m x P ≡ 0

  module _ (law : IsLawful m) where
    pub times-in_order : (e : E) (xs : List E) → times m e (in_order xs) ≡ times m e xs
    times-in_order e xs = let k = times-insert_all m e xs [] in omega arith

    pub rising-in_order : (xs : List E) → IsRising m (in_order xs)
    rising-in_order xs = rising-insert_all m law xs [] tt

    -- lists in which each event stands as often are one in order
    pub same_order : (xs ys : List E) → ((e : E) → times m e xs ≡ times m e ys) → in_order xs ≡ in_order ys
    same_order xs ys h = same_rising m law (in_order xs) (in_order ys) (rising-in_order xs) (rising-in_order ys)
        (λ e. times-in_order e xs ∙ (h e ∙ sym (times-in_order e ys)))

    pub rising-take_out : (e : E) (xs : List E) → IsRising m xs → IsRising m (take_out m e xs)
    rising-take_out e [] r = tt
    rising-take_out e (x ∷ xs) r =
        elim (cases_Bool (m.same e x)) [
          | inl same ↦ rw same r.1
          | inr other ↦ rw other ((λ y h. r.0 y (let le = times-take_out-le m y e xs in omega arith)), rising-take_out e xs r.1)
        ]

    not_there : (e : E) (xs : List E) → times m e xs ≡ 0 → take_out m e xs ≡ xs
    not_there e [] none = refl
    not_there e (x ∷ xs) none =
        elim (cases_Bool (m.same e x)) [
          | inl same ↦ (let count : times m e (x ∷ xs) ≡ 1 + times m e xs = rw same refl in absurd (omega arith))
          | inr other ↦ (let count : times m e (x ∷ xs) ≡ 0 + times m e xs = rw other refl in rw other (ap (λ ys. x ∷ ys) (not_there e xs (omega arith))))
        ]

    -- an event goes into the part's list
    pub insert_part : (e : E) (P Q : List E) → insert m e (in_order (P ++ Q)) ≡ in_order (P ++ insert m e Q)
    insert_part e P Q =
        same_rising m law (insert m e (in_order (P ++ Q))) (in_order (P ++ insert m e Q)) (plain.rising-insert m.before m.same (is_order m law) e (in_order (P ++ Q)) (rising-in_order (P ++ Q)))
        (rising-in_order (P ++ insert m e Q))
        (λ x.
        let a = times-insert m x e (in_order (P ++ Q)) in
        let b = times-in_order x (P ++ Q) in
        let c = times-append m x P Q in
        let d = times-in_order x (P ++ insert m e Q) in
        let f = times-append m x P (insert m e Q) in
        let g = times-insert m x e Q in
        omega arith)

    -- an event of the part leaves its list
    pub take_part : (e : E) (P Q : List E) → times m e P ≡ 0 → take_out m e (in_order (P ++ Q)) ≡ in_order (P ++ take_out m e Q)
    take_part e P Q apart =
        let whole_count = times-in_order e (P ++ Q) in
        let parts = times-append m e P Q in
        elim (cases_eq (times m e Q) 0) [
          | inl absent ↦ not_there e (in_order (P ++ Q)) (omega arith) ∙ ap (λ ys. in_order (P ++ ys)) (sym (not_there e Q absent))
          | inr some ↦ (
              let present : 0 < times m e Q = (let h = some in grind arith) in
              same_rising m law (take_out m e (in_order (P ++ Q))) (in_order (P ++ take_out m e Q)) (rising-take_out e (in_order (P ++ Q)) (rising-in_order (P ++ Q)))
              (rising-in_order (P ++ take_out m e Q))
              (λ x.
              let a = times-take_out m law x e (in_order (P ++ Q)) (omega arith) in
              let b = times-in_order x (P ++ Q) in
              let c = times-append m x P Q in
              let d = times-in_order x (P ++ take_out m e Q) in
              let f = times-append m x P (take_out m e Q) in
              let g = times-take_out m law x e Q present in
              omega arith))
        ]

    -- how often an event of the part stands in the whole
    pub count_part : (e : E) (P Q : List E) → times m e P ≡ 0 → times m e (in_order (P ++ Q)) ≡ times m e Q
    count_part e P Q none = let a = times-in_order e (P ++ Q) in let b = times-append m e P Q in omega arith

    -- ---- what is held

    to_send_none : (held : List E) → to_send m [] held ≡ []
    to_send_none [] = refl
    to_send_none (h ∷ held) = refl

    to_send_next : (x : E) (xs held : List E) → to_send m (x ∷ xs) held ≡ (if nat_lt 0 (times m x held) then to_send m xs (take_out m x held) else x ∷ to_send m xs held)
    to_send_next x xs [] = refl
    to_send_next x xs (h ∷ held) = refl

    still_held_none : (held : List E) → still_held m [] held ≡ held
    still_held_none [] = refl
    still_held_none (h ∷ held) = refl

    still_held_next : (x : E) (xs held : List E) → still_held m (x ∷ xs) held ≡ still_held m xs (take_out m x held)
    still_held_next x xs [] = sym (still_held_empty xs) where
      still_held_empty : (xs : List E) → still_held m xs [] ≡ []
      still_held_empty [] = refl
      still_held_empty (x ∷ xs) = refl
    still_held_next x xs (h ∷ held) = refl

    first_apart : (x : E) (xs P : List E) → AreNotHeld (x ∷ xs) P → times m x P ≡ 0
    first_apart x xs P apart = apart x (in_head m law x xs)

    later_apart : (x : E) (xs P : List E) → AreNotHeld (x ∷ xs) P → AreNotHeld xs P
    later_apart x xs P apart = λ y h. apart y (omega arith)

    -- what goes out of what the part sends does not depend on what is held for the rest
    pub to_send_part : (xs P Q : List E) → AreNotHeld xs P → to_send m xs (in_order (P ++ Q)) ≡ to_send m xs Q
    to_send_part [] P Q apart = to_send_none (in_order (P ++ Q)) ∙ sym (to_send_none Q)
    to_send_part (x ∷ xs) P Q apart =
        let none = first_apart x xs P apart in
        let rest = later_apart x xs P apart in
        to_send_next x xs (in_order (P ++ Q))
        ∙ (ap (λ n. if nat_lt 0 n then to_send m xs (take_out m x (in_order (P ++ Q))) else x ∷ to_send m xs (in_order (P ++ Q))) (count_part x P Q none)
        ∙ (elim (cases_Bool (nat_lt 0 (times m x Q))) [
          | inl some ↦ rw some (ap (to_send m xs) (take_part x P Q none) ∙ to_send_part xs P (take_out m x Q) rest)
          | inr absent ↦ rw absent (ap (λ ys. x ∷ ys) (to_send_part xs P Q rest))
        ]
        ∙ sym (to_send_next x xs Q)))

    -- and what is held still is the part's and the rest's
    pub still_held_part : (xs P Q : List E) → AreNotHeld xs P → still_held m xs (in_order (P ++ Q)) ≡ in_order (P ++ still_held m xs Q)
    still_held_part [] P Q apart = still_held_none (in_order (P ++ Q)) ∙ ap (λ ys. in_order (P ++ ys)) (sym (still_held_none Q))
    still_held_part (x ∷ xs) P Q apart =
        still_held_next x xs (in_order (P ++ Q))
        ∙ (ap (still_held m xs) (take_part x P Q (first_apart x xs P apart))
        ∙ (still_held_part xs P (take_out m x Q) (later_apart x xs P apart)
        ∙ ap (λ ys. in_order (P ++ ys)) (sym (still_held_next x xs Q))))

    pub held_back_part : (cancel : Cancel) (xs P Q : List E) → held_back m cancel xs (in_order (P ++ Q)) ≡ in_order (P ++ held_back m cancel xs Q)
    held_back_part Aggressive xs P Q = refl
    held_back_part Lazy xs P Q =
        same_rising m law (insert_all m xs (in_order (P ++ Q))) (in_order (P ++ insert_all m xs Q)) (rising-insert_all m law xs (in_order (P ++ Q)) (rising-in_order (P ++ Q)))
        (rising-in_order (P ++ insert_all m xs Q))
        (λ x.
        let a = times-insert_all m x xs (in_order (P ++ Q)) in
        let b = times-in_order x (P ++ Q) in
        let c = times-append m x P Q in
        let d = times-in_order x (P ++ insert_all m xs Q) in
        let f = times-append m x P (insert_all m xs Q) in
        let g = times-insert_all m x xs Q in
        omega arith)

    -- what router r holds of the whole is what it holds of the part, where that is in order
    pub from_part : (r : ℕ) (P Q : List E) → ((e : E) → (m.src e == r) ≡ true → times m e P ≡ 0) → IsRising m Q → from m r (in_order (P ++ Q)) ≡ from m r Q
    from_part r P Q apart rising =
        let own = λ (x : E). m.src x == r in
        same_rising m law (from m r (in_order (P ++ Q))) (from m r Q) (rising-filter m law own (in_order (P ++ Q)) (rising-in_order (P ++ Q))) (rising-filter m law own Q rising)
        (λ e. elim (cases_Bool (m.src e == r)) [
          | inl here ↦ times-filter-yes m law own e (in_order (P ++ Q)) here ∙ (count_part e P Q (apart e here) ∙ sym (times-filter-yes m law own e Q here))
          | inr other ↦ times-filter-no m law own e (in_order (P ++ Q)) other ∙ sym (times-filter-no m law own e Q other)
        ])

    pub from_others_part : (r : ℕ) (P Q : List E) → ((e : E) → (m.src e == r) ≡ true → times m e P ≡ 0) → from_others m r (in_order (P ++ Q)) ≡ in_order (P ++ from_others m r Q)
    from_others_part r P Q apart =
        let others = λ (x : E). not (m.src x == r) in
        same_rising m law (from_others m r (in_order (P ++ Q))) (in_order (P ++ from_others m r Q)) (rising-filter m law others (in_order (P ++ Q)) (rising-in_order (P ++ Q)))
        (rising-in_order (P ++ from_others m r Q))
        (λ e.
        let b = times-in_order e (P ++ Q) in
        let c = times-append m e P Q in
        let d = times-in_order e (P ++ from_others m r Q) in
        let f = times-append m e P (from_others m r Q) in
        elim (cases_Bool (m.src e == r)) [
          | inl here ↦ (
              let no : not (m.src e == r) ≡ false = rw here refl in
              let a = times-filter-no m law others e (in_order (P ++ Q)) no in
              let g = times-filter-no m law others e Q no in
              let none = apart e here in
              omega arith)
          | inr other ↦ (
              let yes : not (m.src e == r) ≡ true = rw other refl in
              let a = times-filter-yes m law others e (in_order (P ++ Q)) yes in
              let g = times-filter-yes m law others e Q yes in
              omega arith)
        ])

    -- the least event does not depend on the order of a list
    pub same_least : (xs ys : List E) → ((e : E) → times m e xs ≡ times m e ys) → least m.before xs ≡ least m.before ys
    same_least xs ys h = go (least m.before xs) (least m.before ys) refl refl where
      empty : (zs : List E) → least m.before zs ≡ None → zs ≡ []
      empty [] is = refl
      empty (z ∷ zs) is = cc

      go : (o p : Option E) → least m.before xs ≡ o → least m.before ys ≡ p → o ≡ p
      go None None a b = refl
      go None (Some d) a b = (let there = (least_is m law d ys b).there in let none = ap (times m d) (empty xs a) in let k = h d in absurd (omega arith))
      go (Some e) None a b = (let there = (least_is m law e xs a).there in let none = ap (times m e) (empty ys b) in let k = h e in absurd (omega arith))
      go (Some e) (Some d) a b =
          let one = least_is m law e xs a in
          let two = least_is m law d ys b in
          let k = h d in
          let l = h e in
          let one_there = one.there in
          let two_there = two.there in
          ap Some (law.total e d (two.first e (omega arith)) (one.first d (omega arith)))
