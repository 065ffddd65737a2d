-- Searches over the numbers of routers, one router more.
use Rattle.std.proofs.Common.{◌≡◌, ◌==◌, ℕ, zero, suc, ◌+◌, ◌-◌, ◌<◌, ◌≤◌, Bool, true, false, List, [], ◌∷◌, ◌++◌, get_or, length, map, set, take, Global, Some, None, refl, ap, ap₂, sym, ◌∙◌, subst, inl, inr, arith, if◌then◌else◌}
use Rattle.std.specs.declared.vec.Vec.{Vec}
use Rattle.std.specs.List.{find, list_all, range_with_len}
use Rattle.std.proofs.lemmas.Bool.{cases_eq, eq-eqb, ne_eqb}
use Rattle.std.proofs.lemmas.List.{get_or-set_other, get_or-set_same, length-set, map-append, take_more}
use Rattle.std.proofs.lemmas.List.FromFn.{map-range_with_len_more}
use Rattle.tw_event.specs.declared.event.PathNo.{PathNo}
use Rattle.tw_instance.specs.Tables.{items}

-- what is found behind the first number, where that does not pass
pub find_more : (p : ℕ → Bool) (a k : ℕ) → a < k → p a ≡ false → find p (range_with_len a (k - a)) ≡ find p (range_with_len (a + 1) (k - (a + 1)))
find_more p a k low none = step (k - a) (k - (a + 1)) (omega arith) where
  step : (m l : ℕ) → m ≡ suc l → find p (range_with_len a m) ≡ find p (range_with_len (a + 1) l)
  step m l e = rw e (rw none refl)

pub find_here : (p : ℕ → Bool) (a k : ℕ) → a < k → p a ≡ true → find p (range_with_len a (k - a)) ≡ Some a
find_here p a k low here = step (k - a) (k - (a + 1)) (omega arith) where
  step : (m l : ℕ) → m ≡ suc l → find p (range_with_len a m) ≡ Some a
  step m l e = rw e (rw here refl)

pub find_none : (p : ℕ → Bool) (a k : ℕ) → k ≤ a → find p (range_with_len a (k - a)) ≡ None
find_none p a k over = step (k - a) (omega arith) where
  step : (m : ℕ) → m ≡ 0 → find p (range_with_len a m) ≡ None
  step m e = rw e refl

pub all_more : (p : ℕ → Bool) (a k : ℕ) → a < k → p a ≡ true → list_all p (range_with_len a (k - a)) ≡ list_all p (range_with_len (a + 1) (k - (a + 1)))
all_more p a k low passes = step (k - a) (k - (a + 1)) (omega arith) where
  step : (m l : ℕ) → m ≡ suc l → list_all p (range_with_len a m) ≡ list_all p (range_with_len (a + 1) l)
  step m l e = rw e (rw passes refl)

pub all_fails : (p : ℕ → Bool) (a k : ℕ) → a < k → p a ≡ false → list_all p (range_with_len a (k - a)) ≡ false
all_fails p a k low fails = step (k - a) (k - (a + 1)) (omega arith) where
  step : (m l : ℕ) → m ≡ suc l → list_all p (range_with_len a m) ≡ false
  step m l e = rw e (rw fails refl)

pub all_over : (p : ℕ → Bool) (a k : ℕ) → k ≤ a → list_all p (range_with_len a (k - a)) ≡ true
all_over p a k over = step (k - a) (omega arith) where
  step : (m : ℕ) → m ≡ 0 → list_all p (range_with_len a m) ≡ true
  step m e = rw e refl

-- the row of a table of the code
pub row_at : (rows : List (Vec PathNo Global)) (v : ℕ) (x : Vec PathNo Global) → v < length rows → x ≡ get_or rows v x → get_or (items rows) v [] ≡ x.items
row_at [] v x within is = absurd (omega arith)
row_at (y ∷ rows) zero x within is = ap (λ (z : Vec PathNo Global). z.items) (sym is)
row_at (y ∷ rows) (suc v) x within is = row_at rows v x (omega arith) is

-- the front of a table in which one row is another, one row more
pub only_more : (lists : List (List PathNo)) (v k : ℕ) (q : PathNo) (old new : List (Vec PathNo Global)) (x : Vec PathNo Global) → k < length lists → new ≡ old ++ x ∷ []
    → x.items ≡ (if k == v then q ∷ [] else get_or lists k []) → items old ≡ take k (set lists v (q ∷ [])) → items new ≡ take (k + 1) (set lists v (q ∷ []))
only_more lists v k q old new x low pushed is before =
    ap items pushed ∙ (map-append (λ (r : Vec PathNo Global). r.items) old (x ∷ [])
    ∙ (ap₂ (λ l y. l ++ y ∷ []) before (is ∙ row) ∙ sym (take_more (set lists v (q ∷ [])) k [] (let l = length-set lists v (q ∷ []) in omega arith)))) where
      row : (if k == v then q ∷ [] else get_or lists k []) ≡ get_or (set lists v (q ∷ [])) k []
      row = elim (cases_eq k v) [
        | inl e ↦ rw (eq-eqb k v e) (sym (ap (λ n. get_or (set lists v (q ∷ [])) n []) e ∙ get_or-set_same lists v (q ∷ []) [] (subst (λ n. n < length lists) e low)))
        | inr apart ↦ rw (ne_eqb k v apart) (sym (get_or-set_other lists v k (q ∷ []) [] apart))
      ]

-- lists by a function, one more
pub map_more : {X : Type 0} (f : ℕ → X) (k : ℕ) (old new : List X) (x : X) → new ≡ old ++ x ∷ [] → x ≡ f k → old ≡ map f (range_with_len 0 k) → new ≡ map f (range_with_len 0 (k + 1))
map_more f k old new x pushed is before = pushed ∙ (ap₂ (λ l y. l ++ y ∷ []) before is ∙ sym (map-range_with_len_more f 0 k k (omega arith)))
