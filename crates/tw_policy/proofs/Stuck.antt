-- Where elimination comes to a halt with a choice left, there is a dispute wheel of paths that are left.
use Rattle.std.proofs.Common.{◌≡◌, ℕ, ◌<◌, ◌==◌, Bool, true, false, not, ◌&&◌, List, [], ◌∷◌, ◌++◌, length, get_or, refl, ap, sym, ◌∙◌, subst, inl, inr, arith, nat_lt}
use Rattle.std.specs.List.{list_any, range_with_len, zip}
use Rattle.std.proofs.lemmas.Bool.{cases_Bool, both_ways, and_parts, and_from, eq-eqb, ltb-true, ltb-false, not-true}
use Rattle.tw_event.specs.declared.event.PathNo.{PathNo}
use Rattle.tw_model.specs.Net.{Net, empty_path, hops_of, path, same_path}
use Rattle.tw_model.specs.State.{State, bars}
use Rattle.tw_model.proofs.Nets.{hop_of}
use Rattle.tw_model.proofs.Paths.{same_path_is}
use Rattle.tw_sim.proofs.Members.{In, any_from_in, in_from_any, in_left, in_right, in_zip, range_has}
use Rattle.tw_policy.specs.Left.{IsHalted, allows, covers, follows, is_covered, is_given, remaining}
use Rattle.tw_policy.specs.DisputeWheel.{hop, is_among, is_no_worse}
use Rattle.tw_policy.proofs.Lists.{all_from}
use Rattle.tw_policy.proofs.Rim.{HasWheel, Next, goes_round}

-- a list of two or more has a first one, and others
two_parts : (xs : List PathNo) → 1 < length xs → (q : PathNo) × (others : List PathNo) × (xs ≡ q ∷ others) × (0 < length others)
two_parts [] h = absurd (omega arith)
two_parts (x ∷ xs) h = (x, xs, refl, omega arith)

-- what stands in a list of one
one_alone : (xs : List PathNo) (r z : PathNo) → nat_lt 1 (length xs) ≡ false → In r xs → In z xs → z ≡ r
one_alone (x ∷ []) r z few (inl e) (inl d) = d ∙ sym e
one_alone (x ∷ []) r z few (inr none) k = absurd none
one_alone (x ∷ []) r z few i (inr none) = absurd none
one_alone (x ∷ y ∷ xs) r z few i k = let short = ltb-false 1 (length (x ∷ y ∷ xs)) few in absurd (omega arith)
one_alone [] r z few i k = absurd i

among : (q : PathNo) (xs : List PathNo) → In q xs → is_among q xs ≡ true
among q xs i = any_from_in (λ x. q.0 == x.0) q xs (eq-eqb q.0 q.0 refl) i

module _ (net : Net) (states : ℕ → State) (left : ℕ → List PathNo) where
  -- ---- what remains of an order

  abbrev test : ℕ → List PathNo → PathNo → Bool
  test v better q = is_given net states left v q && not (is_covered net states left v better)

  -- what remains stands in the order, or is the empty path
  pub in_order : (v : ℕ) (better order : List PathNo) (s : PathNo) → (s.0 == 0) ≡ false → In s (remaining net states left v better order) → In s order
  in_order v better [] s some i = grind arith
  in_order v better (x ∷ order) s some i =
      elim (cases_Bool (test v better x)) [
        | inl b ↦ (
            let there : In s (x ∷ remaining net states left v (better ++ x ∷ []) order) = rw b at i in
            elim there [ inl e ↦ inl e | inr k ↦ inr (in_order v (better ++ x ∷ []) order s some k) ])
        | inr b ↦ inr (in_order v (better ++ x ∷ []) order s some (rw b at i))
      ]

  -- where something remains, no neighbour always gives one of the better ones
  record IsOpen (v : ℕ) (better : List PathNo) : Type 0 where
    pub all : List PathNo
    pub has : (y : PathNo) → In y better → In y all
    pub uncovered : is_covered net states left v all ≡ false

  is_open : (v : ℕ) (better order : List PathNo) → 0 < length (remaining net states left v better order) → IsOpen v better
  is_open v better [] some = grind arith
  is_open v better (x ∷ order) some =
      elim (cases_Bool (test v better x)) [
        | inl b ↦ grind arith
        | inr b ↦ (
            let more = is_open v (better ++ x ∷ []) order (rw b at some) in
            record { all = more.all; has = λ y i. more.has y (in_left y better (x ∷ []) i); uncovered = more.uncovered })
      ]

  -- the first of several that remain
  record IsFirst (v : ℕ) (order : List PathNo) (q : PathNo) : Type 0 where
    pub there : In q order
    pub given : is_given net states left v q ≡ true
    pub open_after : IsOpen v (q ∷ [])

  is_first : (v : ℕ) (better order : List PathNo) (q : PathNo) (others : List PathNo) → remaining net states left v better order ≡ q ∷ others → 0 < length others → IsFirst v order q
  is_first v better [] q others is some = grind arith
  is_first v better (x ∷ order) q others is some =
      elim (cases_Bool (test v better x)) [
        | inl b ↦ (
            let split : x ∷ remaining net states left v (better ++ x ∷ []) order ≡ q ∷ others = rw b at is in
            let same : x ≡ q = cc in
            let behind : remaining net states left v (better ++ x ∷ []) order ≡ others = cc in
            let more = is_open v (better ++ x ∷ []) order (subst (λ xs. 0 < length xs) (sym behind) some) in
            let found : IsFirst v (x ∷ order) x = record {
              there = inl refl;
              given = (and_parts (is_given net states left v x) (not (is_covered net states left v better)) b).0;
              open_after = record { all = more.all; has = λ y i. more.has y (in_right y better (x ∷ []) i); uncovered = more.uncovered };
            } in
            subst (IsFirst v (x ∷ order)) same found)
        | inr b ↦ grind (arith, is_first v (better ++ x ∷ []) order q others (rw b at is) some)
      ]

  -- and none that remains stands before it
  none_before : (v : ℕ) (better order : List PathNo) (q : PathNo) (others : List PathNo) (s : PathNo) → remaining net states left v better order ≡ q ∷ others
      → (s.0 == 0) ≡ false → In s (remaining net states left v better order) → is_no_worse q s order ≡ true
  none_before v better [] q others s is some i = absurd (in_order v better [] s some i)
  none_before v better (x ∷ order) q others s is some i =
      elim (cases_Bool (q.0 == x.0)) [
        | inl c ↦ rw c (among s (x ∷ order) (in_order v better (x ∷ order) s some i))
        | inr c ↦ rw c (elim (cases_Bool (test v better x)) [
          | inl b ↦ grind arith
          | inr b ↦ none_before v (better ++ x ∷ []) order q others s (rw b at is) some (rw b at i)
        ])
      ]

  module _ (halt : IsHalted net states left) where
    pub halted : (v : ℕ) → (v == 0) ≡ false → left v ≡ remaining net states left v [] (states v).order
    halted v other = halt v ∙ rw other refl

    -- the best path that a router has left
    abbrev pub best_left : ℕ → PathNo
    best_left v = get_or (left v) 0 empty_path

    pub not_origin : (v : ℕ) → 1 < length (left v) → (v == 0) ≡ false
    not_origin v choice = grind arith

    -- a router with a choice, and one of its paths
    pub record IsSpoke (v : ℕ) (s : PathNo) : Type 0 where
      pub within : v < net.nodes
      pub choice : 1 < length (left v)
      pub there : In s (left v)
      pub some : (s.0 == 0) ≡ false

    pub ranked : (v : ℕ) (s : PathNo) → IsSpoke v s → is_no_worse (best_left v) s (states v).order ≡ true
    ranked v s is = grind (arith, two_parts, halted, not_origin, none_before)

    -- a neighbour with a choice that gives a router its best path
    pub record Giver (v : ℕ) : Type 0 where
      pub router : ℕ
      pub spoke : PathNo
      pub is : IsSpoke router spoke
      pub ranks : is_among (best_left v) (states v).order ≡ true
      pub nodes : path net (best_left v) ≡ v ∷ path net spoke

    -- the neighbour that gives a router its best path has a choice too, or the others would never be used
    pub giver : (v : ℕ) → 1 < length (left v) → Giver v
    giver v choice =
        let parts = two_parts (left v) choice in
        let q = parts.0 in
        let here = halted v (not_origin v choice) in
        let first : best_left v ≡ q = ap (λ xs. get_or xs 0 empty_path) parts.2 in
        let f = is_first v [] (states v).order q parts.1 (sym here ∙ parts.2) parts.3 in
        let rows = zip (hops_of net v) (states v).rows in
        let found = in_from_any (λ p. p.1.up && list_any (allows net states v q) (left p.0.peer)) rows f.given in
        let p = found.0 in
        let w = p.0.peer in
        let met = and_parts p.1.up (list_any (allows net states v q) (left w)) found.1 in
        let heard = in_from_any (allows net states v q) (left w) met.1 in
        let r = heard.0 in
        let parts_of = and_parts (not (bars net v (states v).barred q)) (follows net states v q r) heard.1 in
        let on = and_parts (not (r.0 == 0)) (same_path (path net q) (v ∷ path net r)) parts_of.1 in
        elim (cases_Bool (nat_lt 1 (length (left w)))) [
          | inl b ↦ record {
            router = w;
            spoke = r;
            is = record {
              within = (hop_of net v p.0 (in_zip p (hops_of net v) (states v).rows found.2).0).2;
              choice = ltb-true 1 (length (left w)) b;
              there = heard.2;
              some = not-true (r.0 == 0) on.0;
            };
            ranks = subst (λ z. is_among z (states v).order ≡ true) (sym first) (among q (states v).order f.there);
            nodes = subst (λ z. path net z ≡ v ∷ path net r) (sym first) (same_path_is (path net q) (v ∷ path net r) on.1);
          }
          | inr b ↦ (
              let all = f.open_after.all in
              let covered : covers net states left v all w ≡ true
              = all_from (λ z. list_any (λ y. allows net states v y z) all) (left w) (λ z i.
              let same : z ≡ r = one_alone (left w) r z b heard.2 i in
              any_from_in (λ y. allows net states v y z) q all (subst (λ x. allows net states v q x ≡ true) (sym same) heard.1) (f.open_after.has q (inl refl))) in
              absurd (both_ways (is_covered net states left v all) f.open_after.uncovered
              (any_from_in (λ o. o.1.up && covers net states left v all o.0.peer) p rows (and_from p.1.up (covers net states left v all w) met.0 covered) found.2)))
        ]

    next : (v : ℕ) → 1 < length (left v) → Next net states (range_with_len 0 net.nodes) best_left IsSpoke v
    next v choice =
        let g = giver v choice in
        record { router = g.router; spoke = g.spoke; is = g.is; leads = hop v (best_left v) g.spoke g.ranks g.nodes }

    -- where a router has a choice left at a halt, there is a wheel
    pub stuck_wheel : (v : ℕ) → 1 < length (left v) → HasWheel net states
    stuck_wheel v choice =
        let first = next v choice in
        goes_round net states (range_with_len 0 net.nodes) best_left IsSpoke (record {
          within = λ w s is. (let here = is.within in range_has w 0 net.nodes (omega arith) (omega arith));
          ranked = ranked;
          next = λ w s is. next w is.choice;
        }) first.router first.spoke first.is
