-- The paths of one rest: as a chain from the last to the first, and as rows behind one another.
use Rattle.std.proofs.Common.{◌≡◌, ℕ, suc, zero, ◌+◌, ◌<◌, ◌≤◌, ◌==◌, List, [], ◌∷◌, ◌++◌, length, map, get_or, set, nat_lt, cond, arith}
use Rattle.std.proofs.Common.{Option, Some, None, refl, ap, sym, ◌∙◌, subst, inl, inr}
use Rattle.std.specs.List.{All}
use Rattle.std.proofs.lemmas.Bool.{cases_Bool, cases_eq, cases_lt, eqb-true, eq-eqb, le-ltb, lt-ltb, ne_eqb}
use Rattle.std.proofs.lemmas.List.{get_or-set_other, get_or-set_same, get_or_append_left, get_or_default, get_or_push}
use Rattle.std.proofs.lemmas.List.{length-map, length-set, length_push}
use Rattle.std.proofs.lemmas.List.Elements.{All-append, All-cons, All-map, All-nil, All-weaker}
use Rattle.tw_event.specs.declared.event.PathNo.{PathNo}
use Rattle.tw_model.specs.Net.{Net}
use Rattle.tw_instance.specs.Chains.{AreChained, AreRests, AreRows, IsRest, first_of, places_of, row_of}
use Rattle.tw_instance.proofs.Sparse.{cut_push, no_cuts}

-- ---- rests

pub rest_push : (net : Net) (k r : ℕ) (rests : List ℕ) (q : PathNo) → q.0 ≡ k → AreRests net k rests → IsRest net q r → AreRests net (k + 1) (rests ++ r ∷ [])
rest_push net k r rests q is so next = record {
  long = (let n = length_push rests r in let m = so.long in omega arith);
  each = λ p h. elim (cases_lt p.0 k) [
    | inl below ↦ (let same = get_or_append_left rests (r ∷ []) 0 p.0 (let m = so.long in omega arith) in subst (IsRest net p) (sym same) (so.each p below))
    | inr at ↦ (
        let e : p.0 ≡ k = omega arith in
        let here : r ≡ get_or (rests ++ r ∷ []) p.0 0 = sym (get_or_push rests r 0 p.0 (let m = so.long in omega arith)) in
        let same : q ≡ p = (let n : q.0 ≡ p.0 = omega arith in λ i. record { 0 = n i }) in
        subst (λ s. IsRest net p s) here (subst (λ s. IsRest net s r) same next))
  ];
}

-- ---- a chain

-- what stands from a place on, back to the first
abbrev pub chain : List ℕ → Option ℕ → List ℕ
chain xs None = []
chain xs (Some j) = j ∷ places_of xs (get_or xs j 0) j

-- the next place is one past this, or 0 where there is none
abbrev pub ahead : Option ℕ → ℕ
ahead None = 0
ahead (Some j) = j + 1

pub chain-first_of : (xs : List ℕ) (r k : ℕ) → chain xs (first_of (places_of xs r k)) ≡ places_of xs r k
chain-first_of xs r zero = refl
chain-first_of xs r (suc k) =
    elim (cases_Bool (get_or xs k 0 == r)) [
      | inl t ↦ (let e = eqb-true (get_or xs k 0) r t in rw t (ap (λ s. k ∷ places_of xs s k) e))
      | inr f ↦ rw f (chain-first_of xs r k)
    ]

pub first_below : (xs : List ℕ) (r k : ℕ) → ahead (first_of (places_of xs r k)) ≤ k
first_below xs r zero = omega arith
first_below xs r (suc k) =
    elim (cases_Bool (get_or xs k 0 == r)) [
      | inl t ↦ rw t (omega arith)
      | inr f ↦ rw f (let h = first_below xs r k in omega arith)
    ]

pub places_below : (xs : List ℕ) (r k : ℕ) → All (λ j. j < k) (places_of xs r k)
places_below xs r zero = All-nil (λ j. j < 0)
places_below xs r (suc k) =
    let low = All-weaker (λ j. j < k) (λ j. j < suc k) (λ j h. omega arith) (places_of xs r k) (places_below xs r k) in
    elim (cases_Bool (get_or xs k 0 == r)) [
      | inl t ↦ rw t (All-cons (λ j. j < suc k) k (places_of xs r k) (omega arith) low)
      | inr f ↦ rw f low
    ]

-- ---- a chain that grows

pub chained_start : (xs : List ℕ) (numbers : ℕ) (last before : List (Option ℕ)) → length last ≡ numbers → ((r : ℕ) → get_or last r None ≡ None) → before ≡ [] → AreChained xs numbers 0 last before
chained_start xs numbers last before all none empty = record {
  all = all;
  long = ap length empty;
  lasts = λ r h. none r;
  befores = λ j h. absurd (omega arith);
}

pub chained_push : (xs : List ℕ) (numbers k r : ℕ) (last before : List (Option ℕ)) → get_or xs k 0 ≡ r → r < numbers → AreChained xs numbers k last before
    → AreChained xs numbers (k + 1) (set last r (Some k)) (before ++ get_or last r None ∷ [])
chained_push xs numbers k r last before is low so =
    let e : k + 1 ≡ suc k = omega arith in
    let link = get_or last r None in
    rw e record {
      all = length-set last r (Some k) ∙ so.all;
      long = (let n = length_push before link in let m = so.long in omega arith);
      lasts = λ s h. elim (cases_eq s r) [
        | inl same ↦ (
            let here : get_or (set last r (Some k)) s None ≡ Some k = ap (λ n. get_or (set last r (Some k)) n None) same ∙ get_or-set_same last r (Some k) None (let n = so.all in omega arith) in
            let passes = eq-eqb (get_or xs k 0) s (is ∙ sym same) in
            rw passes here)
        | inr ne ↦ (
            let fails = ne_eqb (get_or xs k 0) s (λ h. ne (sym h ∙ is)) in
            rw fails (get_or-set_other last r s (Some k) None ne ∙ so.lasts s h))
      ];
      befores = λ j h. elim (cases_lt j k) [
        | inl below ↦ (get_or_append_left before (link ∷ []) None j (let n = so.long in omega arith) ∙ so.befores j below)
        | inr at ↦ (
            let last_one : j ≡ k = omega arith in
            let here : get_or (before ++ link ∷ []) j None ≡ link = get_or_push before link None j (let n = so.long in omega arith) in
            here ∙ (so.lasts r low ∙ (ap (λ s. first_of (places_of xs s k)) (sym is) ∙ ap (λ n. first_of (places_of xs (get_or xs n 0) n)) (sym last_one))))
      ];
    }

-- the last place of a number, read out of a chain
pub last_at : (xs : List ℕ) (numbers k r : ℕ) (last before : List (Option ℕ)) (x : Option ℕ) → AreChained xs numbers k last before → r < numbers → x ≡ get_or last r x
    → x ≡ first_of (places_of xs r k)
last_at xs numbers k r last before x so low is = is ∙ (get_or_default last r x None (let n = so.all in omega arith) ∙ so.lasts r low)

-- the place before a place of the same number
pub before_at : (xs : List ℕ) (numbers k j : ℕ) (last before : List (Option ℕ)) (x : Option ℕ) → AreChained xs numbers k last before → j < k → x ≡ get_or before j x
    → x ≡ first_of (places_of xs (get_or xs j 0) j)
before_at xs numbers k j last before x so low is = is ∙ (get_or_default before j x None (let n = so.long in omega arith) ∙ so.befores j low)

-- what is left of a row when none is taken
pub row_begins : (xs : List ℕ) (r : ℕ) (x : Option ℕ) → x ≡ first_of (places_of xs r (length xs)) → (ahead x ≤ length xs) × (map (λ k. record { 0 = k }) (chain xs x) ≡ row_of xs r)
row_begins xs r x is = (
  subst (λ y. ahead y ≤ length xs) (sym is) (first_below xs r (length xs)),
  ap (λ y. map (λ k. record { 0 = k }) (chain xs y)) is ∙ ap (map (λ k. record { 0 = k })) (chain-first_of xs r (length xs)),
)

-- what is left when one more is taken
pub row_goes_on : (xs : List ℕ) (j : ℕ) (x : Option ℕ) → x ≡ first_of (places_of xs (get_or xs j 0) j) → (ahead x ≤ j) × (j ∷ chain xs x ≡ chain xs (Some j))
row_goes_on xs j x is = (
  subst (λ y. ahead y ≤ j) (sym is) (first_below xs (get_or xs j 0) j),
  ap (λ y. j ∷ chain xs y) is ∙ ap (λ ys. j ∷ ys) (chain-first_of xs (get_or xs j 0) j),
)

-- ---- rows

-- how many of the first places, so many, hold a number below k
abbrev pub count_below : List ℕ → ℕ → ℕ → ℕ
count_below xs k zero = 0
count_below xs k (suc n) = cond (nat_lt (get_or xs n 0) k) (suc (count_below xs k n)) (count_below xs k n)

pub none_below : (xs : List ℕ) (n : ℕ) → count_below xs 0 n ≡ 0
none_below xs zero = refl
none_below xs (suc n) =
    let no = le-ltb (get_or xs n 0) 0 (omega arith) in
    rw no (none_below xs n)

at_most : (xs : List ℕ) (k n : ℕ) → count_below xs k n ≤ n
at_most xs k zero = omega arith
at_most xs k (suc n) =
    let h = at_most xs k n in
    elim (cases_Bool (nat_lt (get_or xs n 0) k)) [
      | inl t ↦ rw t (omega arith)
      | inr f ↦ rw f (omega arith)
    ]

below_next : (xs : List ℕ) (k n : ℕ) → count_below xs (k + 1) n ≡ count_below xs k n + length (places_of xs k n)
below_next xs k zero = refl
below_next xs k (suc n) =
    let x = get_or xs n 0 in
    let h = below_next xs k n in
    elim (cases_eq x k) [
      | inl e ↦ (
          let here = eq-eqb x k e in
          let now = lt-ltb x (k + 1) (omega arith) in
          let not_yet = le-ltb x k (omega arith) in
          rw (here, now, not_yet) (omega arith))
      | inr ne ↦ (
          let other = ne_eqb x k ne in
          elim (cases_lt x k) [
            | inl low ↦ (
                let now = lt-ltb x (k + 1) (omega arith) in
                let before = lt-ltb x k low in
                rw (other, now, before) (omega arith))
            | inr high ↦ (
                let now = le-ltb x (k + 1) (omega arith) in
                let before = le-ltb x k high in
                rw (other, now, before) (omega arith))
          ])
    ]

-- the rows so far, and one more, are no longer than the list of the rests
pub row_counted : (xs : List ℕ) (k m : ℕ) → m ≡ count_below xs k (length xs) → m + length (row_of xs k) ≡ count_below xs (k + 1) (length xs)
row_counted xs k m is =
    let next = below_next xs k (length xs) in
    let same = length-map (places_of xs k (length xs)) (λ (j : ℕ). let q : PathNo = record { 0 = j } in q) in
    omega arith

pub rows_fit : (xs : List ℕ) (k m : ℕ) → m ≡ count_below xs k (length xs) → m + length (row_of xs k) ≤ length xs
rows_fit xs k m is =
    let e = row_counted xs k m is in
    let most = at_most xs (k + 1) (length xs) in
    omega arith

pub no_rows : (xs : List ℕ) (starts : List ℕ) (numbers : List PathNo) → starts ≡ 0 ∷ [] → numbers ≡ [] → AreRows xs 0 starts numbers
no_rows xs starts numbers one none = record {
  rows = no_cuts (row_of xs) starts numbers one none;
  few = subst (All (λ q. q.0 < length xs)) (sym none) (λ i d h. absurd (omega arith));
}

pub row_push : (xs : List ℕ) (k n : ℕ) (starts : List ℕ) (numbers row : List PathNo) → AreRows xs k starts numbers → row ≡ row_of xs k → n ≡ length (numbers ++ row)
    → AreRows xs (k + 1) (starts ++ n ∷ []) (numbers ++ row)
row_push xs k n starts numbers row so is count = record {
  rows = cut_push (row_of xs) k n starts numbers row so.rows is count;
  few = All-append (λ q. q.0 < length xs) numbers row so.few
      (subst (All (λ q. q.0 < length xs)) (sym is) (All-map (λ (q : PathNo). q.0 < length xs) (λ j. record { 0 = j }) (places_of xs k (length xs)) (places_below xs k (length xs))));
}
