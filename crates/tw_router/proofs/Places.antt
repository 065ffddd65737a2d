-- The first place that passes a test, and lists that are take-written anew.
use Rattle.std.proofs.Common.{◌≡◌, ◌≢◌, ◌==◌, ℕ, ◌+◌, ◌<◌, ◌≤◌, Bool, true, false, not, cond, ◌||◌, List, [], ◌∷◌}
use Rattle.std.proofs.Common.{◌++◌, length, map, get_or, set, take, drop, min, refl, ap, ap₂, sym, ◌∙◌, arith, inl, inr}
use Rattle.std.specs.List.{AllPairs, position_or_len}
use Rattle.std.proofs.lemmas.Bool.{cases_Bool, cases_lt, both_ways, eq-eqb, ne_eqb}
use Rattle.std.proofs.lemmas.List.{map-append, take_more, take_more_set}
use Rattle.std.proofs.lemmas.List.Sums.{fails_before_first, position_or_len_is}
use Rattle.std.proofs.Math.Seq.{take-append_seam}
use Rattle.tw_event.specs.declared.event.PathNo.{PathNo}
use Rattle.tw_sim.proofs.Members.{In}

module _ {X : Type 0} where
  -- two tests that agree first pass at the same place
  pub place_agree : (p q : X → Bool) → ((x : X) → p x ≡ q x) → (xs : List X) → position_or_len p xs ≡ position_or_len q xs
  place_agree p q same [] = refl
  place_agree p q same (x ∷ xs) = rw (same x) (ap (λ n. cond (not (q x)) (1 + n) 0) (place_agree p q same xs))

  -- a test that nothing passes
  pub place_none : (p : X → Bool) → ((x : X) → p x ≡ false) → (xs : List X) → position_or_len p xs ≡ length xs
  place_none p none [] = refl
  place_none p none (x ∷ xs) = rw (none x) (let rest = place_none p none xs in omega arith)

  -- one test or another first passes where the first of both does
  pub place_either : (p q : X → Bool) (xs : List X) → position_or_len (λ x. p x || q x) xs ≡ min (position_or_len p xs) (position_or_len q xs)
  place_either p q [] = refl
  place_either p q (x ∷ xs) =
      elim (cases_Bool (p x)) [
        | inl a ↦ rw a (omega arith)
        | inr a ↦ elim (cases_Bool (q x)) [
          | inl b ↦ rw (a, b) (omega arith)
          | inr b ↦ rw (a, b) (let rest = place_either p q xs in omega arith)
        ]
      ]

  -- a test that an item passes first passes no later
  pub place_before : (p : X → Bool) (xs : List X) (k : ℕ) (d : X) → p (get_or xs k d) ≡ true → position_or_len p xs ≤ k
  place_before p xs k d passes =
      elim (cases_lt k (position_or_len p xs)) [
        | inl less ↦ absurd (both_ways (p (get_or xs k d)) (fails_before_first p xs k d less) passes)
        | inr more ↦ more
      ]

-- the same through a map
pub place_map : {X Y : Type 0} (f : X → Y) (p : Y → Bool) (q : X → Bool) (xs : List X) → ((x : X) → In x xs → p (f x) ≡ q x)
    → position_or_len p (map f xs) ≡ position_or_len q xs
place_map f p q [] same = refl
place_map f p q (x ∷ xs) same =
    rw (same x (inl refl)) (ap (λ n. cond (not (q x)) (1 + n) 0) (place_map f p q xs (λ y h. same y (inr h))))

-- one more item of a list that is made from another one, item by item
pub map_step : {X : Type 0} (f : X → ℕ) (xs : List X) (made : List ℕ) (i new : ℕ) (d : X) → i < length xs → length made ≡ length xs
    → take i made ≡ map f (take i xs) → new ≡ f (get_or xs i d) → take (i + 1) (set made i new) ≡ map f (take (i + 1) xs)
map_step f xs made i new d within same before is =
    take_more_set made i new (omega arith) ∙ (ap₂ (λ front x. front ++ x ∷ []) before is
    ∙ (sym (map-append f (take i xs) (get_or xs i d ∷ [])) ∙ ap (map f) (sym (take_more xs i d within))))

-- a list take-written over another of its length
pub take-written : (n : ℕ) (new old : List ℕ) → n ≡ length new → take n (new ++ drop (length new) old) ≡ new
take-written n new old is = ap (λ k. take k (new ++ drop (length new) old)) is ∙ take-append_seam new (drop (length new) old)

-- a path that stands at a place of an order without repeats stands there first
pub place_of-distinct : (order : List PathNo) (k : ℕ) (p d : PathNo) → AllPairs (λ p q. p ≢ q) order → k < length order → (get_or order k d).0 ≡ p.0 → k ≡ position_or_len (λ q. q.0 == p.0) order
place_of-distinct order k p d distinct below here =
    sym (position_or_len_is (λ q. q.0 == p.0) order k d (omega arith)
    (λ j before. ne_eqb (get_or order j d).0 p.0 (λ e. distinct j k d before below (let same : (get_or order j d).0 ≡ (get_or order k d).0 = e ∙ sym here in λ i. record { 0 = same i })))
    (λ within. eq-eqb (get_or order k d).0 p.0 here))
