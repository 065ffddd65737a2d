-- Where routers stand in a list of them, and the table of their places.
use Rattle.std.proofs.Common.{◌≡◌, ◌≢◌, ◌⊎◌, ℕ, suc, ◌+◌, ◌-◌, ◌<◌, ◌≤◌, ◌==◌, ◌++◌, ◌∷◌, ◌&&◌, [], Bool, true, false, not, List, Some, None, get_or, length, nat_eq, set, slice_get, refl, ap, sym, ◌∙◌, subst, inl, inr, arith}
use Rattle.std.specs.List.{AllByRecursion}
use Rattle.circular_buffer.proofs.Places.{slice_get-set_other, slice_get-set_same}
use Rattle.std.proofs.Math.Seq.{get_or-append_seam}
use Rattle.std.proofs.lemmas.Bool.{cases_Bool, cases_eq, cases_lt, eq-eqb, eqb-true, false≢true, false_from_ne_true, lt-ltb, ltb-true, ne_eqb}
use Rattle.std.proofs.lemmas.List.{get_or_append_left, length-append, length-set}
use Rattle.std.proofs.lemmas.List.Sums.{fails_before_first, passes_at_first, position_or_len_is}
use Rattle.std.proofs.lemmas.Option.{none-some, slice_get-get_or, slice_get_within}
use Rattle.tw_shard.specs.Roster.{IsRoster, IsTableOf, IsWithout, StandOnce, StandsInList, has, place_in}

-- a router of the list stands at its place
pub stands : (rs : List ℕ) (r : ℕ) → has rs r ≡ true → StandsInList rs (place_in rs r) r
unfolding has
stands rs r h =
    let within = ltb-true (place_in rs r) (length rs) h in
    record { within = within; is = eqb-true (get_or rs (place_in rs r) 0) r (passes_at_first (λ q. q == r) rs 0 within) }

-- where a router stands is its place, if none stands at two
pub place_is : (rs : List ℕ) (k r : ℕ) → StandOnce rs → StandsInList rs k r → place_in rs r ≡ k
place_is rs k r apart at =
    position_or_len_is (λ q. q == r) rs k 0 (let within = at.within in omega arith)
    (λ j before. ne_eqb (get_or rs j 0) r (λ same.
    let two = apart j k r (record { within = (let within = at.within in omega arith); is = same }) at in omega arith))
    (λ within. eq-eqb (get_or rs k 0) r at.is)

-- and it is one of the list
pub stands_has : (rs : List ℕ) (k r : ℕ) → StandOnce rs → StandsInList rs k r → has rs r ≡ true
unfolding has
stands_has rs k r apart at =
    let place = place_is rs k r apart at in
    let within = at.within in
    lt-ltb (place_in rs r) (length rs) (omega arith)

-- a router that stands somewhere is one of them
pub has_at : (rs : List ℕ) (k r : ℕ) → StandsInList rs k r → has rs r ≡ true
unfolding has
has_at rs k r at =
    elim (cases_lt k (place_in rs r)) [
      | inl before ↦ absurd (false≢true (sym (fails_before_first (λ q. q == r) rs k 0 before) ∙ eq-eqb (get_or rs k 0) r at.is))
      | inr past ↦ (let within = at.within in lt-ltb (place_in rs r) (length rs) (omega arith))
    ]

-- what holds of each that stands there holds of all
pub all_standing : (P : ℕ → Type 0) (rs : List ℕ) → ((k r : ℕ) → StandsInList rs k r → P r) → AllByRecursion P rs
all_standing P [] each = tt
all_standing P (r ∷ rs) each = (
  each 0 r (record { within = omega arith; is = refl }),
  all_standing P rs (λ k q at. each (suc k) q (record { within = (let within = at.within in omega arith); is = at.is })),
)

-- two routers at one place are one
pub same_place : (rs : List ℕ) (q r : ℕ) → has rs q ≡ true → has rs r ≡ true → place_in rs q ≡ place_in rs r → q ≡ r
same_place rs q r mine ours same = sym (stands rs q mine).is ∙ (ap (λ k. get_or rs k 0) same ∙ (stands rs r ours).is)

-- it is listed there
pub listed_at : (rs : List ℕ) (r : ℕ) → has rs r ≡ true → slice_get rs (place_in rs r) ≡ Some r
listed_at rs r mine =
    let at = stands rs r mine in
    slice_get-get_or rs (place_in rs r) 0 at.within ∙ ap Some at.is

-- a router that stands nowhere is none of them
pub stands_not : (rs : List ℕ) (r : ℕ) → ((k : ℕ) → StandsInList rs k r → ⊥) → has rs r ≡ false
stands_not rs r none = false_from_ne_true (has rs r) (λ there. none (place_in rs r) (stands rs r there))

and_false : (b : Bool) → (b && false) ≡ false
and_false true = refl
and_false false = refl

same_of : (j k : ℕ) → Some j ≡ Some k → j ≡ k
same_of j k h = cc h

-- ---- the table of places

module _ (rs ps : List ℕ) (t : IsTableOf rs ps) where
  pub table_known : (k r : ℕ) → StandsInList rs k r → r < length ps
  table_known k r at = slice_get_within ps r k (t.here k r at)

  pub table_apart : StandOnce rs
  table_apart j k r one two = same_of j k (sym (t.here j r one) ∙ t.here k r two)

  pub is_roster : (room : ℕ) → IsRoster (record { count = length ps; routers = rs; room = room })
  is_roster room = record { known = table_known; apart = table_apart }

  pub has_noted : (r k : ℕ) → slice_get ps r ≡ Some k → not (nat_eq k 4294967295) ≡ has rs r
  has_noted r k got =
      elim (cases_eq k 4294967295) [
        | inl is ↦ ap not (eq-eqb k 4294967295 is) ∙ sym (stands_not rs r (λ j at.
            let same = same_of j k (sym (t.here j r at) ∙ got) in
            let within = at.within in
            let few : length rs ≤ 4294967295 = t.few in
            omega arith))
        | inr other ↦ ap not (ne_eqb k 4294967295 other) ∙ elim (t.placed k r got) [
          | inl is ↦ absurd (other is)
          | inr at ↦ sym (stands_has rs k r table_apart at)
        ]
      ]

  pub has_none : (r : ℕ) → slice_get ps r ≡ None → false ≡ has rs r
  has_none r got = sym (stands_not rs r (λ j at. none-some j (sym got ∙ t.here j r at)))

  pub noted_place : (r : ℕ) → has rs r ≡ true → slice_get ps r ≡ Some (place_in rs r)
  noted_place r here = t.here (place_in rs r) r (stands rs r here)

  -- one router more, behind the others
  module _ (r : ℕ) (known : r < length ps) (new : has rs r ≡ false) (free : length rs < 4294967295) where
    pub table_added : IsTableOf (rs ++ r ∷ []) (set ps r (length rs))
    table_added =
        let long = length-append rs (r ∷ []) in
        record {
          here = λ k q at. (let within = at.within in elim (cases_lt k (length rs)) [
            | inl before ↦ (
                let old : StandsInList rs k q = record { within = before; is = sym (get_or_append_left rs (r ∷ []) 0 k before) ∙ at.is } in
                let other : q ≢ r = (λ same. false≢true (sym new ∙ subst (λ p. has rs p ≡ true) same (stands_has rs k q table_apart old))) in
                slice_get-set_other ps r q (length rs) other ∙ t.here k q old)
            | inr last ↦ (
                let end : k ≡ length rs = omega arith in
                let same : r ≡ q = sym (get_or-append_seam rs r [] 0) ∙ (ap (λ j. get_or (rs ++ r ∷ []) j 0) (sym end) ∙ at.is) in
                subst (λ p. slice_get (set ps r (length rs)) p ≡ Some k) same (slice_get-set_same ps r (length rs) known ∙ ap Some (sym end)))
          ]);
          placed = λ k q got. elim (cases_eq q r) [
            | inl same ↦ (
                let end : length rs ≡ k = same_of (length rs) k (sym (slice_get-set_same ps r (length rs) known) ∙ (ap (slice_get (set ps r (length rs))) (sym same) ∙ got)) in
                inr (record { within = omega arith; is = ap (λ j. get_or (rs ++ r ∷ []) j 0) (sym end) ∙ (get_or-append_seam rs r [] 0 ∙ sym same) }))
            | inr other ↦ elim (t.placed k q (sym (slice_get-set_other ps r q (length rs) other) ∙ got)) [
              | inl none ↦ inl none
              | inr at ↦ (let within = at.within in inr (record { within = omega arith; is = get_or_append_left rs (r ∷ []) 0 k within ∙ at.is }))
            ]
          ];
          few = omega arith;
        }

-- ---- a list without one of its routers

-- what `swap_remove` leaves
pub without_of : {A : Type 0} (d : A) (xs ys : List A) (p n m : ℕ) → n ≡ length xs → m ≡ length ys → m + 1 ≡ n
    → ((e : A) → p + 1 < n → get_or ys p e ≡ get_or xs (n - 1) e) → ((k : ℕ) (e : A) → k ≢ p → k + 1 < n → get_or ys k e ≡ get_or xs k e) → IsWithout A d p xs ys
without_of d xs ys p n m many few one moved rest = record {
  long = omega arith;
  moved = λ more. moved d (omega arith) ∙ ap (λ k. get_or xs (k - 1) d) many;
  rest = λ k other before. rest k d other (omega arith);
}

module _ (rs qs : List ℕ) (p r : ℕ) (apart : StandOnce rs) (there : StandsInList rs p r) (less : IsWithout ℕ 0 p rs qs) where
  -- what stands in it stood there, at that place or as the last one
  pub stood : (k q : ℕ) → StandsInList qs k q → (q ≢ r) × (((k ≢ p) × StandsInList rs k q) ⊎ ((k ≡ p) × (p + 1 < length rs) × StandsInList rs (length rs - 1) q))
  stood k q at =
      let long = less.long in
      let within = at.within in
      elim (cases_eq k p) [
        | inl here ↦ (
            let more : p + 1 < length rs = omega arith in
            let last : StandsInList rs (length rs - 1) q = record { within = omega arith; is = sym (less.moved more) ∙ (ap (λ j. get_or qs j 0) (sym here) ∙ at.is) } in
            ((λ same. let two = apart (length rs - 1) p r (subst (StandsInList rs (length rs - 1)) same last) there in omega arith), inr (here, more, last)))
        | inr other ↦ (
            let old : StandsInList rs k q = record { within = omega arith; is = sym (less.rest k other (omega arith)) ∙ at.is } in
            ((λ same. other (apart k p r (subst (StandsInList rs k) same old) there)), inl (other, old)))
      ]

  -- and what stood there stands in it, at its place or in place of the router
  pub stays : (j q : ℕ) → q ≢ r → StandsInList rs j q → ((j ≢ p) × (j + 1 < length rs) × StandsInList qs j q) ⊎ ((j ≡ length rs - 1) × (p + 1 < length rs) × StandsInList qs p q)
  stays j q other at =
      let long = less.long in
      let within = at.within in
      let apart_from : j ≢ p = (λ same. other (sym at.is ∙ (ap (λ i. get_or rs i 0) same ∙ there.is))) in
      elim (cases_lt (j + 1) (length rs)) [
        | inl before ↦ inl (apart_from, before, record { within = omega arith; is = less.rest j apart_from before ∙ at.is })
        | inr last ↦ (
            let end : j ≡ length rs - 1 = omega arith in
            let inside = there.within in
            let first : p ≢ length rs - 1 = (λ same. apart_from (end ∙ sym same)) in
            let more : p + 1 < length rs = omega arith in
            inr (end, more, record { within = omega arith; is = less.moved more ∙ (ap (λ i. get_or rs i 0) (sym end) ∙ at.is) }))
      ]

  pub apart_without : StandOnce qs
  apart_without j k q one two =
      let long = less.long in
      let first = stood j q one in
      let second = stood k q two in
      let a = one.within in
      let b = two.within in
      elim (first.1) [
        | inl x ↦ elim (second.1) [
          | inl y ↦ apart j k q x.1 y.1
          | inr y ↦ (let same = apart j (length rs - 1) q x.1 y.2 in absurd (omega arith))
        ]
        | inr x ↦ elim (second.1) [
          | inl y ↦ (let same = apart k (length rs - 1) q y.1 x.2 in absurd (omega arith))
          | inr y ↦ x.0 ∙ sym y.0
        ]
      ]

  pub has_without : (q : ℕ) → has qs q ≡ (has rs q && not (q == r))
  has_without q =
      elim (cases_eq q r) [
        | inl same ↦ stands_not qs q (λ k at. (stood k q at).0 same) ∙ sym (ap (λ b. has rs q && not b) (eq-eqb q r same) ∙ and_false (has rs q))
        | inr other ↦ elim (cases_Bool (has rs q)) [
          | inl here ↦
              elim (stays (place_in rs q) q other (stands rs q here)) [
                | inl x ↦ stands_has qs (place_in rs q) q apart_without x.2
                | inr x ↦ stands_has qs p q apart_without x.2
              ] ∙ sym (ap (λ b. has rs q && not b) (ne_eqb q r other) ∙ ap (λ b. b && true) here)
          | inr none ↦
              stands_not qs q (λ k at. elim ((stood k q at).1) [
                | inl x ↦ false≢true (sym none ∙ stands_has rs k q apart x.1)
                | inr x ↦ false≢true (sym none ∙ stands_has rs (length rs - 1) q apart x.2)
              ]) ∙ sym (ap (λ b. b && not (q == r)) none)
        ]
      ]

  -- what stands beside each router stays beside it
  pub beside : {A : Type 0} (d : A) (xs ys : List A) → length xs ≡ length rs → IsWithout A d p xs ys → (q : ℕ) → has qs q ≡ true
      → (place_in qs q < length ys) × (get_or ys (place_in qs q) d ≡ get_or xs (place_in rs q) d)
  beside d xs ys as_long without q here =
      let at = stands qs q here in
      let long = less.long in
      let long_too = without.long in
      let within = at.within in
      elim ((stood (place_in qs q) q at).1) [
        | inl x ↦ (
            let place = place_is rs (place_in qs q) q apart x.1 in
            (omega arith, without.rest (place_in qs q) x.0 (omega arith) ∙ ap (λ i. get_or xs i d) (sym place)))
        | inr x ↦ (
            let place : place_in rs q ≡ length xs - 1 = place_is rs (length rs - 1) q apart x.2 ∙ ap (λ n. n - 1) (sym as_long) in
            (omega arith, ap (λ i. get_or ys i d) x.0 ∙ (without.moved (let more = x.1 in omega arith) ∙ ap (λ i. get_or xs i d) (sym place))))
      ]

-- ---- the table without one of the routers

module _ (rs ps qs : List ℕ) (r : ℕ) (t : IsTableOf rs ps) (here : has rs r ≡ true) (less : IsWithout ℕ 0 (place_in rs r) rs qs) where
  abbrev p : ℕ
  p = place_in rs r

  apart : StandOnce rs
  apart = table_apart rs ps t

  there : StandsInList rs p r
  there = stands rs r here

  known : r < length ps
  known = table_known rs ps t p r there

  abbrev cleared : List ℕ
  cleared = set ps r 4294967295

  -- what is noted then, but for the place of the last one
  cleared_other : (q : ℕ) → q ≢ r → slice_get cleared q ≡ slice_get ps q
  cleared_other q other = slice_get-set_other ps r q 4294967295 other

  cleared_one : slice_get cleared r ≡ Some 4294967295
  cleared_one = slice_get-set_same ps r 4294967295 known

  -- the last one has gone
  pub table_shorter : length qs ≤ p → IsTableOf qs cleared
  table_shorter last =
      let long = less.long in
      record {
        here = λ k q at. (let within = at.within in let was = stood rs qs p r apart there less k q at in
            elim (was.1) [
              | inl x ↦ cleared_other q was.0 ∙ t.here k q x.1
              | inr x ↦ (let more = x.1 in absurd (omega arith))
            ]);
        placed = λ k q got. elim (cases_eq q r) [
          | inl same ↦ inl (same_of k 4294967295 (sym got ∙ (ap (slice_get cleared) same ∙ cleared_one)))
          | inr other ↦ elim (t.placed k q (sym (cleared_other q other) ∙ got)) [
            | inl none ↦ inl none
            | inr at ↦ elim (stays rs qs p r apart there less k q other at) [
              | inl x ↦ inr x.2
              | inr x ↦ (let more = x.1 in absurd (omega arith))
            ]
          ]
        ];
        few = let few : length rs ≤ 4294967295 = t.few in omega arith;
      }

  -- another one has gone, and the last one has come to its place
  pub moved_known : p < length qs → get_or qs p 0 < length cleared
  moved_known within =
      let at : StandsInList qs p (get_or qs p 0) = record { within = within; is = refl } in
      let was = stood rs qs p r apart there less p (get_or qs p 0) at in
      let long = length-set ps r 4294967295 in
      elim (was.1) [
        | inl x ↦ absurd (x.0 refl)
        | inr x ↦ (let inside = table_known rs ps t (length rs - 1) (get_or qs p 0) x.2 in omega arith)
      ]

  pub table_moved : p < length qs → (m : ℕ) → m ≡ get_or qs p 0 → IsTableOf qs (set cleared m p)
  table_moved within m is =
      let long = less.long in
      let last : StandsInList qs p m = record { within = within; is = sym is } in
      let inside : m < length cleared = subst (λ x. x < length cleared) (sym is) (moved_known within) in
      let final : slice_get (set cleared m p) m ≡ Some p = slice_get-set_same cleared m p inside in
      let apart_now = apart_without rs qs p r apart there less in
      record {
        here = λ k q at. elim (cases_eq q m) [
          | inl same ↦ (
              let place : k ≡ p = apart_now k p m (subst (StandsInList qs k) same at) last in
              subst (λ x. slice_get (set cleared m p) x ≡ Some k) (sym same) (final ∙ ap Some (sym place)))
          | inr other ↦ (let was = stood rs qs p r apart there less k q at in elim (was.1) [
            | inl x ↦ slice_get-set_other cleared m q p other ∙ (cleared_other q was.0 ∙ t.here k q x.1)
            | inr x ↦ absurd (other (sym at.is ∙ (ap (λ i. get_or qs i 0) x.0 ∙ sym is)))
          ])
        ];
        placed = λ k q got. elim (cases_eq q m) [
          | inl same ↦ (
              let place : k ≡ p = same_of k p (sym got ∙ (ap (slice_get (set cleared m p)) same ∙ final)) in
              inr (subst (λ x. StandsInList qs k x) (sym same) (subst (λ x. StandsInList qs x m) (sym place) last)))
          | inr other ↦ (let noted = sym (slice_get-set_other cleared m q p other) ∙ got in elim (cases_eq q r) [
            | inl same ↦ inl (same_of k 4294967295 (sym noted ∙ (ap (slice_get cleared) same ∙ cleared_one)))
            | inr apart_from ↦ elim (t.placed k q (sym (cleared_other q apart_from) ∙ noted)) [
              | inl none ↦ inl none
              | inr at ↦ elim (stays rs qs p r apart there less k q apart_from at) [
                | inl x ↦ inr x.2
                | inr x ↦ absurd (other (sym x.2.is ∙ sym is))
              ]
            ]
          ])
        ];
        few = let few : length rs ≤ 4294967295 = t.few in omega arith;
      }
