-- What is picked by the marks and the least reach is what remains after one round.
use Rattle.std.proofs.Common.{◌≡◌, ℕ, zero, suc, ◌+◌, ◌-◌, ◌<◌, ◌≤◌, ◌==◌, Bool, true, false, not, ◌&&◌, ◌||◌, List, [], ◌∷◌, ◌++◌, drop, drop-cons, fold, get_or, length, max, min, nat_le, nat_lt, replicate, set, take, refl, ap, sym, ◌∙◌, subst, inl, inr, arith, if◌then◌else◌}
use Rattle.std.specs.List.{list_all, list_any, position_or_len, zip}
use Rattle.std.proofs.Math.Seq.{take-append_seam}
use Rattle.std.proofs.lemmas.Bool.{cases_Bool, cases_eq, and_parts, eq-eqb, le-ltb, le-leb, lt-ltb, ne_eqb}
use Rattle.std.proofs.lemmas.List.{get_or-set_other, get_or-set_same, length-set, take_more}
use Rattle.std.proofs.lemmas.List.Sums.{passes_at_first}
use Rattle.tw_event.specs.declared.event.PathNo.{PathNo}
use Rattle.tw_model.specs.declared.net.Hop.{Hop}
use Rattle.tw_model.specs.declared.state.Row.{Row}
use Rattle.tw_model.specs.Net.{IsPath, Net, empty_path, hops_of, origin_path, path, same_path}
use Rattle.tw_model.specs.Rules.{IsNet}
use Rattle.tw_model.specs.State.{IsState, Router, State, bars}
use Rattle.tw_model.proofs.Paths.{own_is_path, path_exact, same_path_is}
use Rattle.tw_router.proofs.Places.{place_before}
use Rattle.tw_policy.specs.Left.{allows, covers, follows, is_covered, is_given, remaining, round_left}
use Rattle.tw_elimination.specs.Marks.{all_marked, least_reach, picked, place_given, reach}
use Rattle.tw_elimination.proofs.Picking.{lt_gap}

-- ---- the first place that passes, and the front of a list

any_front : {X : Type 0} (test : X → Bool) (xs : List X) (k : ℕ) → k ≤ length xs → list_any test (take k xs) ≡ nat_lt (position_or_len test xs) k
any_front test xs zero within = sym (le-ltb (position_or_len test xs) 0 (omega arith))
any_front test [] (suc k) within = absurd (omega arith)
any_front test (x ∷ xs) (suc k) within =
    elim (cases_Bool (test x)) [
      | inl b ↦ rw b (sym (lt-ltb 0 (suc k) (omega arith)))
      | inr b ↦ rw b (any_front test xs k (omega arith) ∙ shift (position_or_len test xs) k)
    ] where
      shift : (n k : ℕ) → nat_lt n k ≡ nat_lt (1 + n) (suc k)
      shift n k = grind arith

-- a test that nothing passes before, and the greatest of all places
all_below : {X : Type 0} (place : X → ℕ) (k : ℕ) (ps : List X) (a : ℕ)
    → (nat_le a k && list_all (λ p. nat_lt (place p) k) ps) ≡ nat_le (fold (λ n p. max n (place p + 1)) a ps) k
all_below place k [] a = and_true (nat_le a k) where
  and_true : (b : Bool) → (b && true) ≡ b
  and_true true = refl
  and_true false = refl
all_below place k (p ∷ ps) a =
    sym (and_assoc (nat_le a k) (nat_lt (place p) k) (list_all (λ p. nat_lt (place p) k) ps))
    ∙ (ap (λ b. b && list_all (λ p. nat_lt (place p) k) ps) (both a (place p) k) ∙ all_below place k ps (max a (place p + 1))) where
      and_assoc : (a b c : Bool) → ((a && b) && c) ≡ (a && (b && c))
      and_assoc true b c = refl
      and_assoc false b c = refl

      both : (a n k : ℕ) → (nat_le a k && nat_lt n k) ≡ nat_le (max a (n + 1)) k
      both a n k = grind arith

-- some of these numbers is small enough, or the bound is, where the least of them is
any_least : {X : Type 0} (up : X → Bool) (n : X → ℕ) (k : ℕ) (es : List X) (a : ℕ)
    → (nat_le a k || list_any (λ e. up e && nat_le (n e) k) es) ≡ nat_le (fold (λ m e. if up e then min m (n e) else m) a es) k
any_least up n k [] a = or_false (nat_le a k) where
  or_false : (b : Bool) → (b || false) ≡ b
  or_false true = refl
  or_false false = refl
any_least up n k (e ∷ es) a =
    elim (cases_Bool (up e)) [
      | inl b ↦ rw b (sym (or_assoc (nat_le a k) (nat_le (n e) k) (list_any (λ e. up e && nat_le (n e) k) es))
          ∙ (ap (λ x. x || list_any (λ e. up e && nat_le (n e) k) es) (either a (n e) k) ∙ any_least up n k es (min a (n e))))
      | inr b ↦ rw b (any_least up n k es a)
    ] where
      or_assoc : (a b c : Bool) → ((a || b) || c) ≡ (a || (b || c))
      or_assoc true b c = refl
      or_assoc false b c = refl

      either : (a n k : ℕ) → (nat_le a k || nat_le n k) ≡ nat_le (min a n) k
      either a n k = grind arith

-- ---- marks

-- a place is marked that was, or that one of these has
any_marked : {X : Type 0} (place : X → ℕ) (k : ℕ) (ps : List X) (g : List Bool) → k < length g
    → get_or (fold (λ g p. set g (place p) true) g ps) k false ≡ (get_or g k false || list_any (λ p. place p == k) ps)
any_marked place k [] g within = or_false (get_or g k false) where
  or_false : (b : Bool) → b ≡ (b || false)
  or_false true = refl
  or_false false = refl
any_marked place k (p ∷ ps) g within =
    any_marked place k ps (set g (place p) true) (let l = length-set g (place p) true in omega arith)
    ∙ (ap (λ b. b || list_any (λ p. place p == k) ps) here ∙ or_assoc (get_or g k false) (place p == k) (list_any (λ p. place p == k) ps)) where
      or_assoc : (a b c : Bool) → ((a || b) || c) ≡ (a || (b || c))
      or_assoc true b c = refl
      or_assoc false b c = refl

      or_true : (b : Bool) → true ≡ (b || true)
      or_true true = refl
      or_true false = refl

      or_false : (b : Bool) → b ≡ (b || false)
      or_false true = refl
      or_false false = refl

      here : get_or (set g (place p) true) k false ≡ (get_or g k false || (place p == k))
      here = elim (cases_eq (place p) k) [
        | inl e ↦ rw (eq-eqb (place p) k e) (subst (λ n. get_or (set g n true) k false ≡ true) (sym e) (get_or-set_same g k true false within) ∙ or_true (get_or g k false))
        | inr apart ↦ rw (ne_eqb (place p) k apart) (get_or-set_other g (place p) k true false (λ e. apart (sym e)) ∙ or_false (get_or g k false))
      ]

length_marked : {X : Type 0} (place : X → ℕ) (ps : List X) (g : List Bool) → length (fold (λ g p. set g (place p) true) g ps) ≡ length g
length_marked place [] g = refl
length_marked place (p ∷ ps) g = length_marked place ps (set g (place p) true) ∙ length-set g (place p) true

any_ends : {X Y : Type 0} (up : X → Bool) (paths : X → List Y) (place : Y → ℕ) (k : ℕ) (es : List X) (g : List Bool) → k < length g
    → get_or (fold (λ g e. if up e then fold (λ g p. set g (place p) true) g (paths e) else g) g es) k false
    ≡ (get_or g k false || list_any (λ e. up e && list_any (λ p. place p == k) (paths e)) es)
any_ends up paths place k [] g within = or_false (get_or g k false) where
  or_false : (b : Bool) → b ≡ (b || false)
  or_false true = refl
  or_false false = refl
any_ends up paths place k (e ∷ es) g within =
    elim (cases_Bool (up e)) [
      | inl b ↦ rw b (
          any_ends up paths place k es (fold (λ g p. set g (place p) true) g (paths e)) (let l = length_marked place (paths e) g in omega arith)
          ∙ (ap (λ x. x || list_any (λ e. up e && list_any (λ p. place p == k) (paths e)) es) (any_marked place k (paths e) g within)
          ∙ or_assoc (get_or g k false) (list_any (λ p. place p == k) (paths e)) (list_any (λ e. up e && list_any (λ p. place p == k) (paths e)) es)))
      | inr b ↦ rw b (any_ends up paths place k es g within)
    ] where
      or_assoc : (a b c : Bool) → ((a || b) || c) ≡ (a || (b || c))
      or_assoc true b c = refl
      or_assoc false b c = refl

pub length_ends : {X Y : Type 0} (up : X → Bool) (paths : X → List Y) (place : Y → ℕ) (es : List X) (g : List Bool)
    → length (fold (λ g e. if up e then fold (λ g p. set g (place p) true) g (paths e) else g) g es) ≡ length g
length_ends up paths place [] g = refl
length_ends up paths place (e ∷ es) g =
    elim (cases_Bool (up e)) [
      | inl b ↦ rw b (length_ends up paths place es (fold (λ g p. set g (place p) true) g (paths e)) ∙ length_marked place (paths e) g)
      | inr b ↦ rw b (length_ends up paths place es g)
    ]

-- ---- two tests that agree

any_same : {X : Type 0} (p q : X → Bool) → ((x : X) → p x ≡ q x) → (xs : List X) → list_any p xs ≡ list_any q xs
any_same p q same [] = refl
any_same p q same (x ∷ xs) = ap (λ b. b || list_any p xs) (same x) ∙ ap (λ b. q x || b) (any_same p q same xs)

pub all_same : {X : Type 0} (p q : X → Bool) → ((x : X) → p x ≡ q x) → (xs : List X) → list_all p xs ≡ list_all q xs
all_same p q same [] = refl
all_same p q same (x ∷ xs) = ap (λ b. b && list_all p xs) (same x) ∙ ap (λ b. q x && b) (all_same p q same xs)

no_mark : (n k : ℕ) → get_or (replicate n false) k false ≡ false
no_mark zero k = refl
no_mark (suc n) zero = refl
no_mark (suc n) (suc k) = no_mark n k

not_less : (n k : ℕ) → not (nat_le n k) ≡ nat_lt k n
not_less n k = grind arith

module _ (net : Net) (is : IsNet net) (states : ℕ → State) (v : ℕ) (state : IsState net v (states v)) (left : ℕ → List PathNo) where
  abbrev r : Router
  r = record { net = net; node = v; state = states v }

  abbrev order : List PathNo
  order = (states v).order

  abbrev es : List (Hop × Row)
  es = zip (hops_of net v) (states v).rows

  -- ---- what a neighbour's paths cover

  covered_by : (k : ℕ) → k ≤ length order → (w : ℕ) → covers net states left v (take k order) w ≡ nat_le (reach r (left w)) k
  covered_by k within w =
      all_same (λ p. list_any (λ y. allows net states v y p) (take k order)) (λ p. nat_lt (place_given r p) k)
      (λ p. any_front (λ y. allows net states v y p) order k within) (left w)
      ∙ (ap (λ b. b && list_all (λ p. nat_lt (place_given r p) k) (left w)) (sym (le-leb 0 k (omega arith))) ∙ all_below (place_given r) k (left w) 0)

  -- some neighbour always gives one of the first k paths where the least reach is at most k
  covered : (k : ℕ) → k ≤ length order → is_covered net states left v (take k order) ≡ nat_le (least_reach r left) k
  covered k within =
      any_same (λ e. e.1.up && covers net states left v (take k order) e.0.peer) (λ e. e.1.up && nat_le (reach r (left e.0.peer)) k)
      (λ e. ap (λ b. e.1.up && b) (covered_by k within e.0.peer)) es
      ∙ (ap (λ b. b || list_any (λ e. e.1.up && nat_le (reach r (left e.0.peer)) k) es) (beyond k within)
      ∙ any_least (λ e. e.1.up) (λ e. reach r (left e.0.peer)) k es (length order + 1)) where
        beyond : (k : ℕ) → k ≤ length order → false ≡ nat_le (length order + 1) k
        beyond k within = grind arith

  -- ---- what a neighbour's paths give

  follows_is : (q p : PathNo) → allows net states v q p ≡ true → path net q ≡ v ∷ path net p
  follows_is q p h =
      let parts = and_parts (not (bars net v (states v).barred q)) (follows net states v q p) h in
      let same = and_parts (not (p.0 == 0)) (same_path (path net q) (v ∷ path net p)) parts.1 in
      same_path_is (path net q) (v ∷ path net p) same.1

  -- a path gives the one at a place just where that is its place
  given_at : (k : ℕ) → k < length order → (p : PathNo) → allows net states v (get_or order k empty_path) p ≡ (place_given r p == k)
  given_at k within p =
      elim (cases_eq (place_given r p) k) [
        | inl e ↦ (
            let first = passes_at_first (λ q. allows net states v q p) order empty_path (omega arith) in
            subst (λ n. allows net states v (get_or order n empty_path) p ≡ true) e first ∙ sym (eq-eqb (place_given r p) k e))
        | inr apart ↦ elim (cases_Bool (allows net states v (get_or order k empty_path) p)) [
          | inr b ↦ b ∙ sym (ne_eqb (place_given r p) k apart)
          | inl b ↦ (
              let most = place_before (λ q. allows net states v q p) order k empty_path b in
              let j = place_given r p in
              let first = passes_at_first (λ q. allows net states v q p) order empty_path (omega arith) in
              let one : IsPath net (get_or order j empty_path) = (own_is_path net v (get_or order j empty_path) (state.order j empty_path (omega arith))).0 in
              let two : IsPath net (get_or order k empty_path) = (own_is_path net v (get_or order k empty_path) (state.order k empty_path within)).0 in
              let same = path_exact net is (get_or order j empty_path) (get_or order k empty_path) one two
              (follows_is (get_or order j empty_path) p first ∙ sym (follows_is (get_or order k empty_path) p b)) in
              absurd (state.distinct j k empty_path (omega arith) within same))
        ]
      ]

  abbrev marks : List Bool
  marks = all_marked r left (replicate (length order + 1) false)

  marked_at : (k : ℕ) → k < length order → get_or marks k false ≡ is_given net states left v (get_or order k empty_path)
  marked_at k within =
      any_ends (λ e. e.1.up) (λ e. left e.0.peer) (place_given r) k es (replicate (length order + 1) false) (let l = length_replicate (length order + 1) in omega arith)
      ∙ (ap (λ b. b || list_any (λ e. e.1.up && list_any (λ p. place_given r p == k) (left e.0.peer)) es) (no_mark (length order + 1) k)
      ∙ any_same (λ e. e.1.up && list_any (λ p. place_given r p == k) (left e.0.peer)) (λ e. e.1.up && list_any (allows net states v (get_or order k empty_path)) (left e.0.peer))
      (λ e. ap (λ b. e.1.up && b) (any_same (λ p. place_given r p == k) (allows net states v (get_or order k empty_path)) (λ p. sym (given_at k within p)) (left e.0.peer))) es) where
        length_replicate : (n : ℕ) → length (replicate n false) ≡ n
        length_replicate zero = refl
        length_replicate (suc n) = ap suc (length_replicate n)

  long : length marks ≡ length order + 1
  long = length_ends (λ e. e.1.up) (λ e. left e.0.peer) (place_given r) es (replicate (length order + 1) false) ∙ length_replicate (length order + 1) where
    length_replicate : (n : ℕ) → length (replicate n false) ≡ n
    length_replicate zero = refl
    length_replicate (suc n) = ap suc (length_replicate n)

  -- ---- what remains of the order from a place on

  abbrev least : ℕ
  least = least_reach r left

  remains : (rest : List PathNo) (gs : List Bool) (k : ℕ) → drop k order ≡ rest → drop k marks ≡ gs → k + length rest ≡ length order
      → remaining net states left v (take k order) rest ≡ picked rest gs (least - k)
  remains [] gs k here there count =
      ap (λ b. if b then [] else empty_path ∷ []) (covered k (omega arith)) ∙ (flip (nat_le least k) (empty_path ∷ [])
      ∙ ap (λ b. if b then empty_path ∷ [] else []) (not_less least k ∙ sym (lt_gap k least))) where
        flip : (b : Bool) (xs : List PathNo) → (if b then [] else xs) ≡ (if not b then xs else [])
        flip true xs = refl
        flip false xs = refl
  remains (q ∷ rest) [] k here there count = absurd (
      let l = long in
      let all : length (drop k marks) ≡ length marks - k = length_drop k marks in
      let none = ap length there in
      omega arith) where
        length_drop : (k : ℕ) (xs : List Bool) → length (drop k xs) ≡ length xs - k
        length_drop zero xs = omega arith
        length_drop (suc k) [] = omega arith
        length_drop (suc k) (x ∷ xs) = let h = length_drop k xs in omega arith
  remains (q ∷ rest) (g ∷ gs) k here there count =
      let within : k < length order = omega arith in
      let first = sym here ∙ drop-cons order k empty_path within in
      let second = sym there ∙ drop-cons marks k false (let l = long in omega arith) in
      let head : q ≡ get_or order k empty_path = cc in
      let tail : drop (suc k) order ≡ rest = cc in
      let mark : g ≡ get_or marks k false = cc in
      let others : drop (suc k) marks ≡ gs = cc in
      let given : g ≡ is_given net states left v q = mark ∙ (marked_at k within ∙ ap (is_given net states left v) (sym head)) in
      let low : not (is_covered net states left v (take k order)) ≡ nat_lt 0 (least - k)
      = ap not (covered k (omega arith)) ∙ (not_less least k ∙ sym (lt_gap k least)) in
      let front : take k order ++ q ∷ [] ≡ take (suc k) order
      = ap (λ x. take k order ++ x ∷ []) head ∙ (sym (take_more order k empty_path within) ∙ ap (λ n. take n order) (more_is k)) in
      let more : remaining net states left v (take k order ++ q ∷ []) rest ≡ picked rest gs ((least - k) - 1)
      = ap (λ xs. remaining net states left v xs rest) front ∙ (remains rest gs (suc k) tail others (omega arith) ∙ ap (picked rest gs) (less_is least k)) in
      ap (λ b. if b && not (is_covered net states left v (take k order)) then q ∷ remaining net states left v (take k order ++ q ∷ []) rest else remaining net states left v (take k order ++ q ∷ []) rest) (sym given)
      ∙ (ap (λ b. if g && b then q ∷ remaining net states left v (take k order ++ q ∷ []) rest else remaining net states left v (take k order ++ q ∷ []) rest) low
      ∙ ap (λ xs. if g && nat_lt 0 (least - k) then q ∷ xs else xs) more) where
        more_is : (k : ℕ) → k + 1 ≡ suc k
        more_is k = omega arith

        less_is : (n k : ℕ) → n - suc k ≡ (n - k) - 1
        less_is n k = omega arith

  pub picked_remains : picked order marks least ≡ remaining net states left v [] order
  picked_remains = sym (remains order marks 0 refl refl (omega arith) ∙ ap (picked order marks) (less_none least)) where
    less_none : (n : ℕ) → n - 0 ≡ n
    less_none n = omega arith

-- ---- as the code has it

-- what is picked of the router's order, where other states have its state there
pub round_is : (router : Router) → IsNet router.net → IsState router.net router.node router.state → (left : ℕ → List PathNo) (order : List PathNo) (given begin : List Bool) (n : ℕ) (next : List PathNo)
    → (router.node ≡ 0 → ⊥) → order ≡ router.state.order → begin ≡ replicate (length router.state.order + 1) false → given ≡ all_marked router left begin → n ≡ least_reach router left
    → next ≡ picked order given n → (states : ℕ → State) → states router.node ≡ router.state → next ≡ round_left router.net states left router.node
round_is router is state left order given begin n next other o b g m e states at =
    let ok : IsState router.net router.node (states router.node) = subst (IsState router.net router.node) (sym at) state in
    let mine : r router.net is states router.node ok left ≡ router
    = ap (λ (x : State). record { net = router.net; node = router.node; state = x }) at in
    let orders : order ≡ (states router.node).order = o ∙ ap (λ (x : State). x.order) (sym at) in
    let begins : begin ≡ replicate (length (states router.node).order + 1) false = b ∙ ap (λ (x : State). replicate (length x.order + 1) false) (sym at) in
    let marks = g ∙ (ap (λ x. all_marked x left begin) (sym mine) ∙ ap (all_marked (r router.net is states router.node ok left) left) begins) in
    let least = m ∙ ap (λ x. least_reach x left) (sym mine) in
    e ∙ (ap (λ xs. picked xs given n) orders
    ∙ (ap (λ x. picked (states router.node).order x n) marks
    ∙ (ap (picked (states router.node).order (all_marked (r router.net is states router.node ok left) left (replicate (length (states router.node).order + 1) false))) least
    ∙ (picked_remains router.net is states router.node ok left
    ∙ ap (λ c. if c then origin_path ∷ [] else remaining router.net states left router.node [] (states router.node).order) (sym (ne_eqb router.node 0 other))))))

-- the origin has its one path
pub round_at_origin : (net : Net) (states : ℕ → State) (left : ℕ → List PathNo) (v : ℕ) (next : List PathNo) → v ≡ 0 → next ≡ origin_path ∷ [] → next ≡ round_left net states left v
round_at_origin net states left v next here e = e ∙ ap (λ c. if c then origin_path ∷ [] else remaining net states left v [] (states v).order) (sym (eq-eqb v 0 here))

-- what is written over the front of a list, where it is as long
pub take_written : {X : Type 0} (n : ℕ) (new old : List X) → n ≡ length new → take n (new ++ drop (length new) old) ≡ new
take_written n new old is = ap (λ k. take k (new ++ drop (length new) old)) is ∙ take-append_seam new (drop (length new) old)
