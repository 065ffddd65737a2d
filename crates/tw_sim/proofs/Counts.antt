-- Counted lists of events: how often an event stands in a list after an append, an insertion or a filter.
use Rattle.std.proofs.Common.{◌≡◌, ℕ, suc, zero, ◌+◌, ◌<◌, ◌≤◌, Bool, true, false, List, [], ◌∷◌, ◌++◌, reverse, refl, subst, ap, ◌⊎◌, inl, inr, arith, filter}
use Rattle.std.proofs.lemmas.Bool.{cases_Bool, both_ways}
use Rattle.std.proofs.lemmas.List.{reverse-append}
use Rattle.tw_sim.specs.Ordered as ordered
use Rattle.tw_sim.specs.Simulation.{Simulation, IsLawful, one, times}
use Rattle.tw_sim.specs.Seq.{insert, insert_all}
use Rattle.tw_sim.proofs.Ordered as plain
use Rattle.tw_sim.proofs.Ordered.{IsOrder}

pub none : (n : ℕ) → (0 < n → ⊥) → n ≡ 0
none zero h = refl
none (suc n) h = absurd (h (omega arith))

module _ {S E : Type 0} (m : Simulation S E) where
  pub times-append : (e : E) (xs ys : List E) → times m e (xs ++ ys) ≡ times m e xs + times m e ys
  times-append e [] ys = omega arith
  times-append e (x ∷ xs) ys = let h = times-append e xs ys in omega arith

  pub times-reverse : (e : E) (xs : List E) → times m e (reverse xs) ≡ times m e xs
  times-reverse e [] = refl
  times-reverse e (x ∷ xs) = let h = times-reverse e xs in rw (reverse-append (x ∷ []) xs) (let k = times-append e (reverse xs) (x ∷ []) in omega arith)

  -- an insertion adds one count
  pub times-insert : (e x : E) (xs : List E) → times m e (insert m x xs) ≡ one m e x + times m e xs
  times-insert = plain.times-insert m.before m.same

  pub times-insert_all : (e : E) (xs ys : List E) → times m e (insert_all m xs ys) ≡ times m e xs + times m e ys
  times-insert_all = plain.times-insert_all m.before m.same

  -- a filter keeps at most what was there
  pub times-filter-le : (p : E → Bool) (e : E) (xs : List E) → times m e (filter p xs) ≤ times m e xs
  times-filter-le p e [] = omega arith
  times-filter-le p e (x ∷ xs) =
      let h = times-filter-le p e xs in
      elim (cases_Bool (p x)) [ inl b ↦ rw b (omega arith) | inr b ↦ rw b (omega arith) ]

  -- taking one out leaves at most what was there
  pub times-take_out-le : (e x : E) (xs : List E) → times m e (ordered.take_out m.same x xs) ≤ times m e xs
  times-take_out-le e x [] = omega arith
  times-take_out-le e x (y ∷ ys) =
      let h = times-take_out-le e x ys in
      elim (cases_Bool (m.same x y)) [ inl b ↦ rw b (omega arith) | inr b ↦ rw b (omega arith) ]

  -- and all of it, where the one to take out is not there
  pub take_out-none : (x : E) (xs : List E) → times m x xs ≡ 0 → ordered.take_out m.same x xs ≡ xs
  take_out-none x [] h = refl
  take_out-none x (y ∷ ys) h =
      elim (cases_Bool (m.same x y)) [
        | inl b ↦ absurd (let k = rw b at h in omega arith)
        | inr b ↦ rw b (ap (λ zs. y ∷ zs) (take_out-none x ys (let k = rw b at h in omega arith)))
      ]

  module _ (law : IsLawful m) where
    pub is_order : IsOrder m.before m.same
    is_order = record {
      not_self = law.not_self;
      trans = law.trans;
      total = law.total;
      same_is = law.same_is;
      same_self = law.same_self;
    }

    pub one_self : (e : E) → one m e e ≡ 1
    one_self = plain.one_self m.before m.same is_order

    pub one_cases : (e x : E) → (one m e x ≡ 0) ⊎ (e ≡ x)
    one_cases = plain.one_cases m.before m.same is_order

    -- the newest or one of the others
    pub in_cons : (e x : E) (xs : List E) → 0 < times m e (x ∷ xs) → (e ≡ x) ⊎ (0 < times m e xs)
    in_cons = plain.in_cons m.before m.same is_order

    pub in_head : (x : E) (xs : List E) → 0 < times m x (x ∷ xs)
    in_head x xs = let h = one_self x in omega arith

    -- one count fewer of what was there
    pub times-take_out : (e x : E) (xs : List E) → 0 < times m x xs → one m e x + times m e (ordered.take_out m.same x xs) ≡ times m e xs
    times-take_out e x [] h = absurd (omega arith)
    times-take_out e x (y ∷ ys) h =
        elim (cases_Bool (m.same x y)) [
          | inl b ↦ rw b (ap (λ z. one m e z + times m e ys) (law.same_is x y b))
          | inr b ↦ (
              let other : one m x y ≡ 0 = rw b refl in
              let k = times-take_out e x ys (omega arith) in
              rw b (omega arith))
        ]

    -- an event that passes the test stands as often in what passes, one that fails it never
    pub times-filter-yes : (p : E → Bool) (e : E) (xs : List E) → p e ≡ true → times m e (filter p xs) ≡ times m e xs
    times-filter-yes p e [] h = refl
    times-filter-yes p e (x ∷ xs) h =
        let k = times-filter-yes p e xs h in
        elim (cases_Bool (p x)) [
          | inl b ↦ rw b (omega arith)
          | inr b ↦ rw b (elim (one_cases e x) [ inl z ↦ omega arith | inr s ↦ absurd (both_ways (p x) b (subst (λ y. p y ≡ true) s h)) ])
        ]

    pub times-filter-no : (p : E → Bool) (e : E) (xs : List E) → p e ≡ false → times m e (filter p xs) ≡ 0
    times-filter-no p e [] h = refl
    times-filter-no p e (x ∷ xs) h =
        let k = times-filter-no p e xs h in
        elim (cases_Bool (p x)) [
          | inl b ↦ rw b (elim (one_cases e x) [ inl z ↦ omega arith | inr s ↦ absurd (both_ways (p x) (subst (λ y. p y ≡ false) s h) b) ])
          | inr b ↦ rw b (omega arith)
        ]

    -- what stands in a filtered list passes the test and stood in the list
    pub in_filter : (p : E → Bool) (e : E) (xs : List E) → 0 < times m e (filter p xs) → (p e ≡ true) × (0 < times m e xs)
    in_filter p e xs h =
        elim (cases_Bool (p e)) [
          | inl b ↦ (b, (let k = times-filter-le p e xs in omega arith))
          | inr b ↦ (let k = times-filter-no p e xs b in absurd (omega arith))
        ]
