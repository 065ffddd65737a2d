-- One step of marking.
use Rattle.std.proofs.Common.{◌≡◌, ℕ, zero, suc, ◌+◌, ◌<◌, ◌≤◌, Bool, true, false, List, [], ◌∷◌, drop, fold, get_or, length, max, min, nat_cmp, set, ap, sym, ◌∙◌, arith, if◌then◌else◌}
use Rattle.std.specs.declared.vec.Vec.{Vec}
use Rattle.std.specs.Ordering.{ord_max}
use Rattle.std.proofs.lemmas.Slice.Zip.{get_or-zip, length-zip}
use Rattle.tw_event.specs.declared.event.PathNo.{PathNo}
use Rattle.tw_instance.specs.Tables.{row}
use Rattle.tw_model.specs.declared.net.Hop.{Hop}
use Rattle.tw_model.specs.declared.state.Row.{Row}
use Rattle.tw_model.specs.Net.{hops_of}
use Rattle.tw_model.specs.State.{Router, no_row, row as row_of}
use Rattle.tw_elimination.specs.Marks.{all_marked, ends, least_reach, marked, place_given, reach}
use Rattle.tw_elimination.proofs.Folds.{fold_step, max_is}

module _ (r at : Router) (same : at ≡ r) (paths : List PathNo) (i place : ℕ) (d : PathNo) (within : i < length paths) (is : place ≡ place_given at (get_or paths i d)) where
  placed : place ≡ place_given r (get_or paths i d)
  placed = is ∙ ap (λ x. place_given x (get_or paths i d)) same

  pub reach_step : (n m : ℕ) → m ≡ ord_max nat_cmp n (place + 1) → fold (λ n p. max n (place_given r p + 1)) n (drop i paths) ≡ reach r paths
      → fold (λ n p. max n (place_given r p + 1)) m (drop (i + 1) paths) ≡ reach r paths
  reach_step n m most before =
      ap (λ k. fold (λ n p. max n (place_given r p + 1)) k (drop (i + 1) paths)) (most ∙ (max_is n (place + 1) ∙ ap (λ k. max n (k + 1)) placed))
      ∙ (fold_step (λ n p. max n (place_given r p + 1)) n paths i d within ∙ before)

  pub marked_step : (given begin : List Bool) → fold (λ g p. set g (place_given r p) true) given (drop i paths) ≡ marked r begin paths
      → fold (λ g p. set g (place_given r p) true) (set given place true) (drop (i + 1) paths) ≡ marked r begin paths
  marked_step given begin before =
      ap (λ k. fold (λ g p. set g (place_given r p) true) (set given k true) (drop (i + 1) paths)) placed
      ∙ (fold_step (λ g p. set g (place_given r p) true) given paths i d within ∙ before)

-- the row of a table at a router that is there
pub row_at : {X Z : Type 0} (rows : List (Vec X Z)) (v : ℕ) (x : Vec X Z) → v < length rows → x ≡ get_or rows v x → row rows v ≡ x.items
row_at [] v x within is = absurd (omega arith)
row_at (y ∷ rows) zero x within is = ap (λ z. z.items) (sym is)
row_at (y ∷ rows) (suc v) x within is = row_at rows v x (omega arith) is

-- the least reach, with one neighbour more
abbrev pub narrow : Router → (ℕ → List PathNo) → ℕ → Hop × Row → ℕ
narrow r left n p = if p.1.up then min n (reach r (left p.0.peer)) else n

-- the marks, with those of one neighbour more
abbrev pub widen : Router → (ℕ → List PathNo) → List Bool → Hop × Row → List Bool
widen r left g p = if p.1.up then marked r g (left p.0.peer) else g

module _ (r at : Router) (same : at ≡ r) (left : ℕ → List PathNo) (hops : List Hop) (slot : ℕ) (d : Hop) (hops_are : hops ≡ hops_of r.net r.node)
    (long : length r.state.rows ≡ length (hops_of r.net r.node)) (within : slot < length hops) where
  here : slot < length (hops_of r.net r.node)
  here = let e = ap length hops_are in omega arith

  pub slot_there : slot < length r.state.rows
  slot_there = let h = here in omega arith

  end_at : get_or (ends r) slot (d, no_row) ≡ (get_or hops slot d, row_of r.state slot)
  end_at =
      get_or-zip (hops_of r.net r.node) r.state.rows slot (d, no_row) here slot_there
      ∙ ap (λ hs. (get_or hs slot d, row_of r.state slot)) (sym hops_are)

  ends_there : slot < length (ends r)
  ends_there = let e = length-zip (hops_of r.net r.node) r.state.rows in let h = here in let s = slot_there in omega arith

  -- over a link that is up
  module _ (up : (row_of at.state slot).up ≡ true) (paths : List PathNo) (are : left (get_or hops slot d).peer ≡ paths) where
    up_here : (row_of r.state slot).up ≡ true
    up_here = ap (λ x. (row_of x.state slot).up) (sym same) ∙ up

    pub narrow_up : (n m k : ℕ) → k ≡ reach at paths → m ≡ min n k → fold (narrow r left) n (drop slot (ends r)) ≡ least_reach r left
        → fold (narrow r left) m (drop (slot + 1) (ends r)) ≡ least_reach r left
    narrow_up n m k is least before =
        let reached : m ≡ min n (reach r (left (get_or hops slot d).peer))
        = least ∙ ap (min n) (is ∙ (ap (λ x. reach x paths) same ∙ ap (reach r) (sym are))) in
        let step : narrow r left n (get_or (ends r) slot (d, no_row)) ≡ m = ap (narrow r left n) end_at ∙ (rw up_here (sym reached)) in
        ap (λ x. fold (narrow r left) x (drop (slot + 1) (ends r))) (sym step) ∙ (fold_step (narrow r left) n (ends r) slot (d, no_row) ends_there ∙ before)

    pub widen_up : (given after begin : List Bool) → after ≡ marked at given paths → fold (widen r left) given (drop slot (ends r)) ≡ all_marked r left begin
        → fold (widen r left) after (drop (slot + 1) (ends r)) ≡ all_marked r left begin
    widen_up given after begin is before =
        let marks : after ≡ marked r given (left (get_or hops slot d).peer)
        = is ∙ (ap (λ x. marked x given paths) same ∙ ap (marked r given) (sym are)) in
        let step : widen r left given (get_or (ends r) slot (d, no_row)) ≡ after = ap (widen r left given) end_at ∙ (rw up_here (sym marks)) in
        ap (λ x. fold (widen r left) x (drop (slot + 1) (ends r))) (sym step) ∙ (fold_step (widen r left) given (ends r) slot (d, no_row) ends_there ∙ before)

  -- over one that is down
  module _ (down : (row_of at.state slot).up ≡ false) where
    down_here : (row_of r.state slot).up ≡ false
    down_here = ap (λ x. (row_of x.state slot).up) (sym same) ∙ down

    pub narrow_down : (n m : ℕ) → m ≡ n → fold (narrow r left) n (drop slot (ends r)) ≡ least_reach r left → fold (narrow r left) m (drop (slot + 1) (ends r)) ≡ least_reach r left
    narrow_down n m is before =
        let step : narrow r left n (get_or (ends r) slot (d, no_row)) ≡ m = ap (narrow r left n) end_at ∙ rw down_here (sym is) in
        ap (λ x. fold (narrow r left) x (drop (slot + 1) (ends r))) (sym step) ∙ (fold_step (narrow r left) n (ends r) slot (d, no_row) ends_there ∙ before)

    pub widen_down : (given after begin : List Bool) → after ≡ given → fold (widen r left) given (drop slot (ends r)) ≡ all_marked r left begin
        → fold (widen r left) after (drop (slot + 1) (ends r)) ≡ all_marked r left begin
    widen_down given after begin is before =
        let step : widen r left given (get_or (ends r) slot (d, no_row)) ≡ after = ap (widen r left given) end_at ∙ rw down_here (sym is) in
        ap (λ x. fold (widen r left) x (drop (slot + 1) (ends r))) (sym step) ∙ (fold_step (widen r left) given (ends r) slot (d, no_row) ends_there ∙ before)

-- at the end all neighbours were seen
pub all_seen : (r : Router) (hops : List Hop) (slot : ℕ) → hops ≡ hops_of r.net r.node → length r.state.rows ≡ length (hops_of r.net r.node) → length hops ≤ slot
    → slot ≤ length hops → slot ≡ length (ends r)
all_seen r hops slot are long over most =
    let e = length-zip (hops_of r.net r.node) r.state.rows in let h = ap length are in omega arith
