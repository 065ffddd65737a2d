-- A list from which an item was taken out, and put back changed, while another one was changed.
use Rattle.std.proofs.Common.{◌≡◌, Err, Ok, ℕ, zero, suc, ◌+◌, ◌-◌, ◌<◌, ◌==◌, List, [], ◌∷◌, ◌++◌, get_or, length, set, refl, ap, sym, ◌∙◌, subst, inl, inr, arith}
use Rattle.std.proofs.lemmas.Bool.{cases_eq, eq-eqb, ne_eqb}
use Rattle.std.proofs.lemmas.List.{get_or-set_other, get_or-set_same, get_or_append_left, length-set}
use Rattle.std.proofs.Math.Seq.{get_or-append_seam}
use Rattle.std.specs.List.{SwappedAt}
use Rattle.std.specs.Prelude.{if◌then◌else◌, OnErr, OnOk, Result}

-- what follows from two facts of a success, and of a failure
pub both_ok : {T E : Type 0} (r : Result T E) (P Q R : Type 0) → OnOk r P → OnOk r Q → (P → Q → R) → OnOk r R
both_ok (Ok x) P Q R p q f = f p q
both_ok (Err e) P Q R p q f = tt

pub on_err : {T E : Type 0} (r : Result T E) (P : Type 0) → P → OnErr r P
on_err (Ok x) P p = tt
on_err (Err e) P p = p

pub both_err : {T E : Type 0} (r : Result T E) (P Q R : Type 0) → OnErr r P → OnErr r Q → (P → Q → R) → OnErr r R
both_err (Ok x) P Q R p q f = tt
both_err (Err e) P Q R p q f = f p q

module _ {X : Type 0} where
  length_more : (xs : List X) (x : X) → length (xs ++ x ∷ []) ≡ length xs + 1
  length_more [] x = refl
  length_more (y ∷ xs) x = let more = length_more xs x in omega arith

  -- an item put where it stands
  pub set_itself : (xs : List X) (k : ℕ) (d : X) → set xs k (get_or xs k d) ≡ xs
  set_itself [] k d = refl
  set_itself (x ∷ xs) zero d = refl
  set_itself (x ∷ xs) (suc k) d = ap (λ l. x ∷ l) (set_itself xs k d)

  pub set_set : (xs : List X) (k : ℕ) (x y : X) → set (set xs k x) k y ≡ set xs k y
  set_set [] k x y = refl
  set_set (z ∷ xs) zero x y = refl
  set_set (z ∷ xs) (suc k) x y = ap (λ l. z ∷ l) (set_set xs k x y)

  -- an item put back where another one was put meanwhile
  pub set_again : (xs : List X) (i j : ℕ) (x y z : X) → (i ≡ j → ⊥) → set (set (set xs i x) j y) i z ≡ set (set xs i z) j y
  set_again [] i j x y z apart = refl
  set_again (w ∷ xs) zero zero x y z apart = absurd (apart refl)
  set_again (w ∷ xs) zero (suc j) x y z apart = refl
  set_again (w ∷ xs) (suc i) zero x y z apart = ap (λ l. y ∷ l) (set_set xs i x z)
  set_again (w ∷ xs) (suc i) (suc j) x y z apart = ap (λ l. w ∷ l) (set_again xs i j x y z (λ same. apart (ap suc same)))

  -- lists of which each item is the same
  same_lists : (xs ys : List X) → length xs ≡ length ys → ((k : ℕ) (d : X) → k < length xs → get_or xs k d ≡ get_or ys k d) → xs ≡ ys
  same_lists [] [] long each = refl
  same_lists [] (y ∷ ys) long each = absurd (omega arith)
  same_lists (x ∷ xs) [] long each = absurd (omega arith)
  same_lists (x ∷ xs) (y ∷ ys) long each = λ i. each 0 x (omega arith) i ∷ same_lists xs ys (omega arith) (λ k d l. each (suc k) d (omega arith)) i

  module _ (xs ys : List X) (from to last p : ℕ) (long : length xs ≡ last + 1) (short : length ys ≡ last) (from_in : from < last + 1) (to_in : to < last + 1) (apart : from ≡ to → ⊥)
      (moved : (d : X) → from + 1 < last + 1 → get_or ys from d ≡ get_or xs last d) (rest : (k : ℕ) (d : X) → (k ≡ from → ⊥) → k + 1 < last + 1 → get_or ys k d ≡ get_or xs k d)
      (place : p ≡ (if to == last then from else to)) where
    at_last : to ≡ last → p ≡ from
    at_last is = place ∙ rw (eq-eqb to last is) refl

    elsewhere : (to ≡ last → ⊥) → p ≡ to
    elsewhere ne = place ∙ rw (ne_eqb to last ne) refl

    -- the other one stands at the place
    pub other_there : (d : X) → get_or ys p d ≡ get_or xs to d
    other_there d = elim (cases_eq to last) [
      | inl is ↦ (let before : from + 1 < last + 1 = omega_before is in ap (λ k. get_or ys k d) (at_last is) ∙ (moved d before ∙ ap (λ k. get_or xs k d) (sym is)))
      | inr ne ↦ ap (λ k. get_or ys k d) (elsewhere ne) ∙ rest to d (λ same. apart (sym same)) (below to to_in ne)
    ] where
      below : (k : ℕ) → k < last + 1 → (k ≡ last → ⊥) → k + 1 < last + 1
      below k within ne = elim (cases_eq k last) [ inl is ↦ absurd (ne is) | inr other ↦ omega arith ]

      omega_before : to ≡ last → from + 1 < last + 1
      omega_before is = below from from_in (λ same. apart (same ∙ sym is))

    pub place_in : p < length ys
    place_in = elim (cases_eq to last) [
      | inl is ↦ (let same = at_last is in elim (cases_eq from last) [ inl both ↦ absurd (apart (both ∙ sym is)) | inr other ↦ omega arith ])
      | inr ne ↦ (let same = elsewhere ne in omega arith)
    ]

    module _ (s t : X) (ws : List X) (as_long : length ws ≡ length (set ys p t ++ s ∷ [])) (swapped : SwappedAt (set ys p t ++ s ∷ []) ws from last) where
      zs : List X
      zs = set ys p t ++ s ∷ []

      held : length (set ys p t) ≡ last
      held = length-set ys p t ∙ short

      seam : (d : X) → get_or (set ys p t ++ s ∷ []) last d ≡ s
      seam d = ap (λ k. get_or (set ys p t ++ s ∷ []) k d) (sym held) ∙ get_or-append_seam (set ys p t) s [] d

      before : (k : ℕ) (d : X) → k < last → get_or (set ys p t ++ s ∷ []) k d ≡ get_or (set ys p t) k d
      before k d l = get_or_append_left (set ys p t) (s ∷ []) d k (subst (λ n. k < n) (sym held) l)

      pub put_back : ws ≡ set (set xs from s) to t
      put_back = same_lists ws (set (set xs from s) to t) many each where
        many : length ws ≡ length (set (set xs from s) to t)
        many =
            let a = length_more (set ys p t) s in
            let b = length-set (set xs from s) to t in
            let c = length-set xs from s in
            let d = held in
            omega arith

        wide : length (set xs from s) ≡ last + 1
        wide = length-set xs from s ∙ long

        each : (k : ℕ) (d : X) → k < length ws → get_or ws k d ≡ get_or (set (set xs from s) to t) k d
        each k d within =
            let a = length_more (set ys p t) s in
            let h = held in
            elim (cases_eq k from) [
              | inl is ↦
                  ap (λ j. get_or ws j d) is
                  ∙ (swapped.0 d ∙ (seam d ∙ sym (ap (λ j. get_or (set (set xs from s) to t) j d) is
                  ∙ (get_or-set_other (set xs from s) to from t d apart ∙ get_or-set_same xs from s d (subst (λ n. from < n) (sym long) from_in)))))
              | inr not_from ↦ elim (cases_eq k to) [
                | inl is ↦
                    let there : get_or (set (set xs from s) to t) k d ≡ t
                    = ap (λ j. get_or (set (set xs from s) to t) j d) is ∙ get_or-set_same (set xs from s) to t d (subst (λ n. to < n) (sym wide) to_in) in
                    let put : get_or (set ys p t) p d ≡ t = get_or-set_same ys p t d place_in in
                    elim (cases_eq to last) [
                      | inl is_last ↦
                          let f : from < last = elim (cases_eq from last) [ inl both ↦ absurd (apart (both ∙ sym is_last)) | inr other ↦ omega arith ] in
                          ap (λ j. get_or ws j d) (is ∙ is_last)
                          ∙ (swapped.1 d ∙ (before from d f ∙ (ap (λ j. get_or (set ys p t) j d) (sym (at_last is_last)) ∙ (put ∙ sym there))))
                      | inr ne ↦
                          let f : to < last = elim (cases_eq to last) [ inl both ↦ absurd (ne both) | inr other ↦ omega arith ] in
                          ap (λ j. get_or ws j d) is
                          ∙ (swapped.2 to d (λ same. apart (sym same)) ne ∙ (before to d f ∙ (ap (λ j. get_or (set ys p t) j d) (sym (elsewhere ne)) ∙ (put ∙ sym there))))
                    ]
                | inr not_to ↦
                    let there : get_or (set (set xs from s) to t) k d ≡ get_or xs k d
                    = get_or-set_other (set xs from s) to k t d not_to ∙ get_or-set_other xs from k s d not_from in
                    elim (cases_eq k last) [
                      | inl is_last ↦
                          let ne : to ≡ last → ⊥ = λ e. not_to (is_last ∙ sym e) in
                          let f : from < last = elim (cases_eq from last) [ inl both ↦ absurd (not_from (is_last ∙ sym both)) | inr other ↦ omega arith ] in
                          ap (λ j. get_or ws j d) is_last
                          ∙ (swapped.1 d ∙ (before from d f ∙ (get_or-set_other ys p from t d (λ e. apart (e ∙ elsewhere ne)) ∙ (moved d (omega arith) ∙ (ap (λ j. get_or xs j d) (sym is_last) ∙ sym there)))))
                      | inr not_last ↦
                          let f : k < last = omega arith in
                          let not_place : k ≡ p → ⊥ = λ e. elim (cases_eq to last) [ inl l ↦ not_from (e ∙ at_last l) | inr ne ↦ not_to (e ∙ elsewhere ne) ] in
                          swapped.2 k d not_from not_last ∙ (before k d f ∙ (get_or-set_other ys p k t d not_place ∙ (rest k d not_from (omega arith) ∙ sym there)))
                    ]
              ]
            ]
