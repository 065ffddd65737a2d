-- Lists that are kept in order, by a plain test of order and a plain test of equality: what an insertion does to them.
use Rattle.std.proofs.Common.{◌≡◌, suc, ◌+◌, ◌<◌, Bool, true, false, List, [], ◌∷◌, length, refl, ap, sym, ◌∙◌, subst, ◌⊎◌, inl, inr, arith}
use Rattle.std.proofs.lemmas.Bool.{cases_Bool, false≢true}
use Rattle.std.specs.List.{AllByRecursion}
use Rattle.tw_sim.specs.Ordered.{insert, insert_all, one, times}
use Rattle.tw_sim.specs.Rising.{IsRising}

-- what is the same is equal, and the order is strict and total
pub record IsOrder {E : Type 0} (before same : E → E → Bool) : Type 0 where
  pub not_self : (x : E) → before x x ≡ false
  pub trans : (x y z : E) → before x y ≡ true → before y z ≡ true → before x z ≡ true
  pub total : (x y : E) → before x y ≡ false → before y x ≡ false → x ≡ y
  pub same_is : (x y : E) → same x y ≡ true → x ≡ y
  pub same_self : (x : E) → same x x ≡ true

module _ {E : Type 0} (before : E → E → Bool) where
  pub length-insert : (e : E) (xs : List E) → length (insert before e xs) ≡ suc (length xs)
  length-insert e [] = refl
  length-insert e (x ∷ xs) =
      elim (cases_Bool (before x e)) [
        | inl b ↦ rw b (ap suc (length-insert e xs))
        | inr b ↦ rw b refl
      ]

  pub length-insert_all : (es xs : List E) → length (insert_all before es xs) ≡ length es + length xs
  length-insert_all [] xs = omega arith
  length-insert_all (e ∷ es) xs = let h = length-insert_all es (insert before e xs) in let k = length-insert e xs in omega arith

  pub all-insert : (P : E → Type 0) (e : E) (xs : List E) → P e → AllByRecursion P xs → AllByRecursion P (insert before e xs)
  all-insert P e [] p h = (p, tt)
  all-insert P e (x ∷ xs) p h =
      elim (cases_Bool (before x e)) [
        | inl b ↦ rw b (h.0, all-insert P e xs p h.1)
        | inr b ↦ rw b (p, h)
      ]

module _ {E : Type 0} (before same : E → E → Bool) where
  -- an insertion adds one count
  pub times-insert : (e x : E) (xs : List E) → times same e (insert before x xs) ≡ one same e x + times same e xs
  times-insert e x [] = refl
  times-insert e x (y ∷ ys) =
      elim (cases_Bool (before y x)) [
        | inl b ↦ let h = times-insert e x ys in rw b (omega arith)
        | inr b ↦ rw b refl
      ]

  pub times-insert_all : (e : E) (xs ys : List E) → times same e (insert_all before xs ys) ≡ times same e xs + times same e ys
  times-insert_all e [] ys = omega arith
  times-insert_all e (x ∷ xs) ys = let h = times-insert_all e xs (insert before x ys) in let k = times-insert e x ys in omega arith

  module _ (law : IsOrder before same) where
    pub one_self : (e : E) → one same e e ≡ 1
    one_self e = rw (law.same_self e) refl

    pub one_cases : (e x : E) → (one same e x ≡ 0) ⊎ (e ≡ x)
    one_cases e x =
        elim (cases_Bool (same e x)) [
          | inl b ↦ inr (law.same_is e x b)
          | inr b ↦ inl (rw b refl)
        ]

    -- the first or one of the others
    pub in_cons : (e x : E) (xs : List E) → 0 < times same e (x ∷ xs) → (e ≡ x) ⊎ (0 < times same e xs)
    in_cons e x xs h = elim (one_cases e x) [ inl z ↦ inr (omega arith) | inr s ↦ inl s ]

    pub not_back : (x y : E) → before x y ≡ true → before y x ≡ false
    not_back x y h =
        elim (cases_Bool (before y x)) [
          | inl b ↦ absurd (false≢true (sym (law.not_self x) ∙ law.trans x y x h b))
          | inr b ↦ b
        ]

    -- what is not after x is before what x is before
    pub before_from : (x e f : E) → before x e ≡ false → before x f ≡ true → before e f ≡ true
    before_from x e f h k =
        elim (cases_Bool (before e x)) [
          | inl b ↦ law.trans e x f b k
          | inr b ↦ subst (λ y. before y f ≡ true) (law.total x e h b) k
        ]

    -- what is not before what is not before x is not before x
    pub not_before : (e y x : E) → before e y ≡ false → before y x ≡ false → before e x ≡ false
    not_before e y x h k =
        elim (cases_Bool (before e x)) [
          | inl b ↦ absurd (false≢true (sym k ∙ before_from e y x h b))
          | inr b ↦ b
        ]

    -- a list that rises does so with one more element in its place
    pub rising-insert : (x : E) (xs : List E) → IsRising before same xs → IsRising before same (insert before x xs)
    rising-insert x [] r = ((λ e none. absurd (omega arith)), tt)
    rising-insert x (y ∷ ys) r =
        elim (cases_Bool (before y x)) [
          | inl b ↦ rw b (
            ((λ e there. elim (in_cons e x ys (let k = times-insert e x ys in omega arith)) [
              | inl is ↦ subst (λ z. before z y ≡ false) (sym is) (not_back y x b)
              | inr old ↦ r.0 e old
            ])),
            rising-insert x ys r.1,
          )
          | inr b ↦ rw b (
            ((λ e there. elim (in_cons e y ys there) [
              | inl is ↦ subst (λ z. before z x ≡ false) (sym is) b
              | inr old ↦ not_before e y x (r.0 e old) b
            ])),
            r,
          )
        ]

    pub rising-insert_all : (es xs : List E) → IsRising before same xs → IsRising before same (insert_all before es xs)
    rising-insert_all [] xs r = r
    rising-insert_all (e ∷ es) xs r = rising-insert_all es (insert before e xs) (rising-insert e xs r)

    -- what holds of each element holds of one that is counted
    pub counted_is : (P : E → Type 0) (e : E) (xs : List E) → AllByRecursion P xs → 0 < times same e xs → P e
    counted_is P e [] h there = absurd (omega arith)
    counted_is P e (x ∷ xs) h there =
        elim (in_cons e x xs there) [
          | inl is ↦ subst P (sym is) h.0
          | inr old ↦ counted_is P e xs h.1 old
        ]

    -- what holds of all that is counted holds of each element
    pub all_counted : (P : E → Type 0) (xs : List E) → ((x : E) → 0 < times same x xs → P x) → AllByRecursion P xs
    all_counted P [] h = tt
    all_counted P (x ∷ xs) h =
        let own = one_self x in (h x (omega arith), all_counted P xs (λ y there. h y (omega arith)))
