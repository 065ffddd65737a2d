-- The rank of a neighbour, and the best of all ranks.
use Rattle.std.proofs.Common.{◌≡◌, ℕ, ◌-◌, ◌<◌, ◌≤◌, ◌==◌, Bool, true, false, not, ◌&&◌, List, [], ◌∷◌, length, map, replicate, get_or, set, max, fold, Some, None, refl, ap, ap₂, sym, ◌∙◌, subst, arith, inl, inr, if◌then◌else◌, ◌↔◌, IsTrue}
use Rattle.std.specs.List.{All, find, list_any, position_or_len}
use Rattle.std.specs.Option.{unwrap_or}
use Rattle.std.proofs.lemmas.Bool.Decides.{Decides-eqb, same_from_decides}
use Rattle.std.proofs.lemmas.Bool.{cases_Bool, eqb-true, ne_eqb, false_from_ne_true}
use Rattle.std.proofs.lemmas.List.{map-set, set-get_or}
use Rattle.std.proofs.lemmas.List.Elements.{All-head, All-tail}
use Rattle.std.proofs.lemmas.List.Folds.{find_at}
use Rattle.std.proofs.lemmas.Option.{slice_get-get_or, slice_get_past}
use Rattle.tw_event.specs.declared.event.PathNo.{PathNo}
use Rattle.tw_model.specs.declared.state.Row.{Row}
use Rattle.tw_model.specs.declared.net.Hop.{Hop}
use Rattle.tw_model.specs.Net.{IsPath, Net, empty_path}
use Rattle.tw_model.specs.Effect.{with_row}
use Rattle.tw_model.specs.State.{IsState, Router, State, bars, best, fresh_row, is_choice, no_row, offers, row}
use Rattle.tw_router.specs.Ranks.{is_open, rank, rank_of_path, rank_row}
use Rattle.tw_router.proofs.Opening.{all-paths}
use Rattle.tw_router.proofs.Places.{place_agree, place_either, place_none}

and_false : (b : Bool) → (b && false) ≡ false
and_false true = refl
and_false false = refl

-- what is barred has no place among what is not
ranked : (b : Bool) (test : PathNo → Bool) (order : List PathNo)
    → (if b then 0 else length order - position_or_len test order) ≡ length order - position_or_len (λ q. not b && test q) order
ranked true test order = let none = place_none (λ (q : PathNo). false) (λ q. refl) order in omega arith
ranked false test order = refl

-- ---- the rank of one neighbour

module _ (net : Net) (v : ℕ) (order : List PathNo) (barred : List Bool) where
  -- a neighbour that offers nothing
  pub rank_none : (row : Row) → ((q : PathNo) → IsTrue (offers net v q row) ↔ (None ≡ Some q)) → 0 ≡ rank net v order barred row
  rank_none row none =
      let closed : (q : PathNo) → is_open net v barred row q ≡ false = λ q.
      ap (λ b. not (bars net v barred q) && b) (false_from_ne_true (offers net v q row) (λ h. let k = (none q).0 h in cc)) ∙ and_false (not (bars net v barred q)) in
      let past = place_none (is_open net v barred row) closed order in
      omega arith

  offered_alone : (row : Row) (p : PathNo) → ((q : PathNo) → IsTrue (offers net v q row) ↔ (Some p ≡ Some q)) → (q : PathNo)
      → (q.0 == p.0) ≡ offers net v q row
  offered_alone row p some q =
      same_from_decides (q.0 == p.0) (offers net v q row) (Decides-eqb q.0 p.0)
      (λ h. let k = (some q).0 h in cc, λ e. (some q).1 (ap (λ n. Some (record { 0 = n })) (sym e)))

  -- it opens the one path that it offers, unless that is barred
  open_alone : (row : Row) (p : PathNo) → ((q : PathNo) → IsTrue (offers net v q row) ↔ (Some p ≡ Some q)) → (q : PathNo)
      → (not (bars net v barred p) && (q.0 == p.0)) ≡ is_open net v barred row q
  open_alone row p some q =
      let alone = offered_alone row p some in
      elim (cases_Bool (q.0 == p.0)) [
        | inl is ↦ (
            let same : p ≡ q = ap (λ n. record { 0 = n }) (sym (eqb-true q.0 p.0 is)) in
            subst (λ (x : PathNo). (not (bars net v barred p) && (x.0 == p.0)) ≡ is_open net v barred row x) same
            (ap (λ b. not (bars net v barred p) && b) (alone p)))
        | inr is ↦ ap (λ b. not (bars net v barred p) && b) is ∙ (and_false (not (bars net v barred p))
            ∙ sym (ap (λ b. not (bars net v barred q) && b) (sym (alone q) ∙ is) ∙ and_false (not (bars net v barred q))))
      ]

  -- a neighbour that offers one path
  pub rank_some : (row : Row) (p : PathNo) → ((q : PathNo) → IsTrue (offers net v q row) ↔ (Some p ≡ Some q))
      → rank_of_path net v order barred p ≡ rank net v order barred row
  rank_some row p some =
      ranked (bars net v barred p) (λ q. q.0 == p.0) order
      ∙ ap (λ n. length order - n) (place_agree (λ q. not (bars net v barred p) && (q.0 == p.0)) (is_open net v barred row) (open_alone row p some) order)

  -- neighbours that have told nothing
  pub rank_fresh : (hops : List Hop) → replicate (length hops) 0 ≡ map (rank net v order barred) (map fresh_row hops)
  rank_fresh [] = refl
  rank_fresh (hop ∷ hops) =
      let none = place_none (is_open net v barred (fresh_row hop)) (λ q. and_false (not (bars net v barred q))) order in
      ap₂ (λ x xs. x ∷ xs) (omega arith) (rank_fresh hops)

-- ---- the best of all ranks

-- a truth value that is asked for at each item, or once
any_and : {X : Type 0} (b : Bool) (test : X → Bool) (xs : List X) → list_any (λ x. not b && test x) xs ≡ (not b && list_any test xs)
any_and true test [] = refl
any_and true test (x ∷ xs) = any_and true test xs
any_and false test xs = refl

module _ (net : Net) (v : ℕ) (order : List PathNo) (barred : List Bool) where
  -- whether a path is not barred and a neighbour offers it
  abbrev may_be_used : List Row → PathNo → Bool
  may_be_used rows q = not (bars net v barred q) && list_any (offers net v q) rows

  -- the first place of the order with a path that a neighbour opens
  abbrev first_any : List Row → ℕ
  first_any rows = position_or_len (λ q. list_any (λ row. is_open net v barred row q) rows) order

  -- the first place of the order with a path that may be used
  abbrev first_used : List Row → ℕ
  first_used rows = position_or_len (may_be_used rows) order

  -- the path there
  abbrev first_path : List Row → PathNo
  first_path rows = unwrap_or (find (may_be_used rows) order) empty_path

  greatest_from : (rows : List Row) (a : ℕ) → fold max a (map (rank net v order barred) rows) ≡ max a (length order - first_any rows)
  greatest_from [] a = let none = place_none (λ (q : PathNo). false) (λ q. refl) order in omega arith
  greatest_from (row ∷ rows) a =
      let rest = greatest_from rows (max a (rank net v order barred row)) in
      let either = place_either (is_open net v barred row) (λ q. list_any (λ row. is_open net v barred row q) rows) order in
      rest ∙ omega arith

  -- the greatest rank is that of the first place with a path that may be used
  greatest : (rows : List Row) → fold max 0 (map (rank net v order barred) rows) ≡ length order - first_used rows
  greatest rows =
      let same = place_agree (λ q. list_any (λ row. is_open net v barred row q) rows) (may_be_used rows) (λ q. any_and (bars net v barred q) (offers net v q) rows) order in
      greatest_from rows 0 ∙ omega arith

  first_path_at : (rows : List Row) (d : PathNo) → first_used rows < length order → first_path rows ≡ get_or order (first_used rows) d
  first_path_at rows d within =
      ap (λ o. unwrap_or o empty_path) (find_at (may_be_used rows) order ∙ slice_get-get_or order (first_used rows) d within)

  first_path_past : (rows : List Row) → length order ≤ first_used rows → first_path rows ≡ empty_path
  first_path_past rows past =
      ap (λ o. unwrap_or o empty_path) (find_at (may_be_used rows) order ∙ slice_get_past order (first_used rows) past)

-- ---- the ranks of a router

-- at a router other than the origin
best_elsewhere : (net : Net) (v : ℕ) (s : State) → 0 < v → best net v s ≡ first_path net v s.order s.barred s.rows
best_elsewhere net v s some = rw (ne_eqb v 0 (omega arith)) refl

-- where no rank is above 0, there is no best path
pub no_best : (r : Router) (g : ℕ) → 0 < r.node → g ≡ fold max 0 (rank_row r) → g ≡ 0 → best r.net r.node r.state ≡ empty_path
no_best r g away is none =
    let s = r.state in
    let first = greatest r.net r.node s.order s.barred s.rows in
    best_elsewhere r.net r.node s away ∙ first_path_past r.net r.node s.order s.barred s.rows (omega arith)

-- the greatest rank leads to the path p of the order
pub record LeadsTo (order : List PathNo) (g : ℕ) (p : PathNo) : Type 0 where
  pub most : g ≤ length order
  pub at : (q : PathNo) → get_or order (length order - g) q ≡ p

-- where a rank is above 0, the greatest leads to the best path
pub leads_to_best : (r : Router) (order : List PathNo) (g : ℕ) → 0 < r.node → order ≡ r.state.order → g ≡ fold max 0 (rank_row r) → (g ≡ 0 → ⊥)
    → LeadsTo order g (best r.net r.node r.state)
leads_to_best r order g away same is some =
    let s = r.state in
    let first = greatest r.net r.node s.order s.barred s.rows in
    subst (λ (o : List PathNo). LeadsTo o g (best r.net r.node s)) (sym same) (record {
      most = omega arith;
      at = λ q. ap (λ n. get_or s.order n q) (omega arith) ∙ sym (best_elsewhere r.net r.node s away ∙ first_path_at r.net r.node s.order s.barred s.rows q (omega arith));
    })

found_is_path : (net : Net) (test : PathNo → Bool) (order : List PathNo) → All (IsPath net) order → IsPath net (unwrap_or (find test order) empty_path)
found_is_path net test [] all = omega arith
found_is_path net test (q ∷ order) all =
    elim (cases_Bool (test q)) [
      | inl a ↦ rw a (All-head (IsPath net) q order all)
      | inr a ↦ rw a (found_is_path net test order (All-tail (IsPath net) q order all))
    ]

-- the best path stands in the net
pub best_is_path : (r : Router) → IsState r.net r.node r.state → IsPath r.net (best r.net r.node r.state)
best_is_path r valid =
    elim (cases_Bool (r.node == 0)) [
      | inl a ↦ rw a (omega arith)
      | inr a ↦ rw a (found_is_path r.net (is_choice r.net r.node r.state) r.state.order (all-paths r.net r.node r.state.order valid.order))
    ]

-- ---- what keeps the ranks

-- one row and its rank
pub ranks_set : (r : Router) (ranks : List ℕ) (k : ℕ) (row : Row) (new : ℕ) → ranks ≡ rank_row r → new ≡ rank r.net r.node r.state.order r.state.barred row
    → set ranks k new ≡ rank_row (record r { state = with_row r.state k row })
ranks_set r ranks k row new is rank_is =
    ap₂ (λ xs x. set xs k x) is rank_is ∙ sym (map-set (rank r.net r.node r.state.order r.state.barred) r.state.rows k row)

-- the rank of one row take-written again
pub ranks_set_again : (r : Router) (ranks : List ℕ) (k : ℕ) (at : Row) (new : ℕ) → ranks ≡ rank_row r → at ≡ row r.state k
    → new ≡ rank r.net r.node r.state.order r.state.barred at → set ranks k new ≡ rank_row r
ranks_set_again r ranks k at new is at_is rank_is =
    ranks_set r ranks k at new is rank_is
    ∙ ap (map (rank r.net r.node r.state.order r.state.barred)) (ap (set r.state.rows k) at_is ∙ set-get_or r.state.rows k no_row)
