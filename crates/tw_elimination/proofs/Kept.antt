-- Rounds of elimination within lists: each takes a path, or is the last.
use Rattle.std.proofs.Common.{◌≡◌, ℕ, zero, suc, ◌+◌, ◌<◌, ◌≤◌, ◌==◌, Bool, true, false, List, [], ◌∷◌, ◌++◌, filter, get_or, length, map, Global, refl, ap, ap₂, sym, ◌∙◌, subst, inl, inr, arith, if◌then◌else◌}
use Rattle.std.specs.declared.vec.Vec.{Vec}
use Rattle.std.specs.List.{list_all, range_with_len}
use Rattle.std.proofs.lemmas.Bool.{cases_Bool, cases_eq, cases_lt, and_parts, eqb-true, eq-eqb}
use Rattle.std.proofs.lemmas.List.{get_or_past, length-map, map-append}
use Rattle.std.proofs.lemmas.List.FromFn.{get_or-map-range_with_len, length-map-range_with_len, map-range_with_len_more}
use Rattle.tw_event.specs.declared.event.PathNo.{PathNo}
use Rattle.tw_instance.specs.Tables.{items, row}
use Rattle.tw_model.specs.Case.{Case}
use Rattle.tw_model.specs.Net.{IsPath, origin_path}
use Rattle.tw_sim.proofs.Members.{In, all_from_in, in_filter, in_from_all, in_range, range_has}
use Rattle.tw_policy.specs.Left.{remaining}
use Rattle.tw_policy.specs.Search.{is_one_of, total}
use Rattle.tw_policy.specs.Standing.{standing}
use Rattle.tw_policy.proofs.Ends.{filter_short, total_no_more}
use Rattle.tw_elimination.specs.Narrowing.{AreLists, halt_within, left_at, list_at, lists_after, loses_none, one_round, total_in}

-- the rows of a table, one more
pub items_more : (f : ℕ → List PathNo) (k : ℕ) (old new : List (Vec PathNo Global)) (x : Vec PathNo Global) → new ≡ old ++ x ∷ [] → x.items ≡ f k → items old ≡ map f (range_with_len 0 k)
    → items new ≡ map f (range_with_len 0 (k + 1))
items_more f k old new x pushed is before =
    ap items pushed ∙ (map-append (λ (r : Vec PathNo Global). r.items) old (x ∷ [])
    ∙ (ap₂ (λ l y. l ++ y ∷ []) before is ∙ sym (map-range_with_len_more f 0 k k (omega arith))))

-- ---- how many paths lists have

pub total_same : (f g : ℕ → List PathNo) (vs : List ℕ) → ((v : ℕ) → In v vs → f v ≡ g v) → total f vs ≡ total g vs
total_same f g [] same = refl
total_same f g (v ∷ vs) same =
    let here = ap length (same v (inl refl)) in
    let more = total_same f g vs (λ w k. same w (inr k)) in
    omega arith

-- lists of which none is longer, and not all are as long
total_fewer : (f g : ℕ → List PathNo) → ((v : ℕ) → length (f v) ≤ length (g v)) → (vs : List ℕ) → list_all (λ v. length (f v) == length (g v)) vs ≡ false → total f vs < total g vs
total_fewer f g short [] h = absurd (cc)
total_fewer f g short (v ∷ vs) h =
    let here = short v in
    elim (cases_eq (length (f v)) (length (g v))) [
      | inl e ↦ (
          let as_long : (length (f v) == length (g v)) ≡ true = eq-eqb (length (f v)) (length (g v)) e in
          let more = total_fewer f g short vs (rw as_long at h) in
          omega arith)
      | inr apart ↦ (let most = total_no_more f g short vs in omega arith)
    ]

all_long : (f g : ℕ → List PathNo) (vs : List ℕ) → ((v : ℕ) → In v vs → length (f v) ≡ length (g v)) → list_all (λ v. length (f v) == length (g v)) vs ≡ true
all_long f g [] h = refl
all_long f g (v ∷ vs) h = rw (eq-eqb (length (f v)) (length (g v)) (h v (inl refl))) (all_long f g vs (λ w k. h w (inr k)))

long_at : (f g : ℕ → List PathNo) (vs : List ℕ) → list_all (λ v. length (f v) == length (g v)) vs ≡ true → (v : ℕ) → In v vs → length (f v) ≡ length (g v)
long_at f g (w ∷ vs) h v (inl e) =
    let parts = and_parts (length (f w) == length (g w)) (list_all (λ v. length (f v) == length (g v)) vs) h in
    subst (λ z. length (f z) ≡ length (g z)) (sym e) (eqb-true (length (f w)) (length (g w)) parts.0)
long_at f g (w ∷ vs) h v (inr k) = long_at f g vs (and_parts (length (f w) == length (g w)) (list_all (λ v. length (f v) == length (g v)) vs) h).1 v k
long_at f g [] h v k = absurd k

-- a filter that takes nothing
filter_whole : (p : PathNo → Bool) (xs : List PathNo) → length (filter p xs) ≡ length xs → (x : PathNo) → In x xs → p x ≡ true
filter_whole p [] long x i = absurd i
filter_whole p (y ∷ xs) long x i =
    let short = filter_short p xs in
    elim (cases_Bool (p y)) [
      | inr b ↦ (let less : length (filter p xs) ≡ length (y ∷ xs) = rw b at long in absurd (omega arith))
      | inl b ↦ (
          let same : length (y ∷ filter p xs) ≡ length (y ∷ xs) = rw b at long in
          elim i [
            | inl e ↦ subst (λ z. p z ≡ true) (sym e) b
            | inr k ↦ filter_whole p xs (omega arith) x k
          ])
    ]

module _ (case : Case) where
  abbrev routers : List ℕ
  routers = range_with_len 0 case.net.nodes

  -- what a path has to be among so that router v keeps it
  abbrev pub may_be : List (List PathNo) → ℕ → List PathNo
  may_be lists v = if v == 0 then origin_path ∷ [] else remaining case.net (standing case) (list_at lists) v [] (standing case v).order

  pub at_round : (lists : List (List PathNo)) (v : ℕ) → v < case.net.nodes → list_at (one_round case lists) v ≡ left_at case lists v
  at_round lists v here = get_or-map-range_with_len (left_at case lists) 0 case.net.nodes v v [] here (omega arith)

  pub round_long : (lists : List (List PathNo)) → length (one_round case lists) ≡ case.net.nodes
  round_long lists = length-map-range_with_len (left_at case lists) 0 case.net.nodes

  -- a round keeps paths that were there
  pub round_in : (lists : List (List PathNo)) (v : ℕ) (q : PathNo) → In q (list_at (one_round case lists) v) → In q (list_at lists v)
  round_in lists v q i =
      elim (cases_lt v case.net.nodes) [
        | inl low ↦ (in_filter (is_one_of (may_be lists v)) q (list_at lists v) (subst (In q) (at_round lists v low) i)).1
        | inr high ↦ (
            let past : list_at (one_round case lists) v ≡ [] = get_or_past (one_round case lists) v [] (let l = round_long lists in omega arith) in
            let none : In q [] = subst (In q) past i in
            absurd none)
      ]

  pub round_lists : (lists : List (List PathNo)) → AreLists case lists → AreLists case (one_round case lists)
  round_lists lists are = record {
    long = round_long lists;
    paths = λ v. all_from_in (IsPath case.net) (list_at (one_round case lists) v)
        (λ q i. in_from_all (IsPath case.net) (list_at lists v) (are.paths v) q (round_in lists v q i));
  }

  kept_short : (lists : List (List PathNo)) (v : ℕ) → length (left_at case lists v) ≤ length (list_at lists v)
  kept_short lists v = filter_short (is_one_of (may_be lists v)) (list_at lists v)

  pub takes_one : (lists : List (List PathNo)) → loses_none case lists ≡ false → total_in case (one_round case lists) < total_in case lists
  takes_one lists other =
      let same = total_same (list_at (one_round case lists)) (left_at case lists) routers (λ v i. let r = in_range v 0 case.net.nodes i in at_round lists v (omega arith)) in
      let fewer = total_fewer (left_at case lists) (list_at lists) (kept_short lists) routers other in
      omega arith

  pub takes_none_more : (lists : List (List PathNo)) → total_in case (one_round case lists) ≤ total_in case lists
  takes_none_more lists =
      let same = total_same (list_at (one_round case lists)) (left_at case lists) routers (λ v i. let r = in_range v 0 case.net.nodes i in at_round lists v (omega arith)) in
      let most = total_no_more (left_at case lists) (list_at lists) (kept_short lists) routers in
      omega arith

  -- where a round takes nothing, each path is one that its router may use
  pub all_kept_in : (lists : List (List PathNo)) → loses_none case lists ≡ true → (v : ℕ) → v < case.net.nodes → (q : PathNo) → In q (list_at lists v) → is_one_of (may_be lists v) q ≡ true
  all_kept_in lists all v here q i =
      filter_whole (is_one_of (may_be lists v)) (list_at lists v)
      (long_at (left_at case lists) (list_at lists) routers all v (range_has v 0 case.net.nodes (omega arith) (omega arith))) q i

  -- ---- to the halt

  pub halt_is : (n : ℕ) (lists : List (List PathNo)) → loses_none case lists ≡ true → lists_after case n lists ≡ lists
  halt_is zero lists all = refl
  halt_is (suc n) lists all = rw all refl

  pub halt_more : (n : ℕ) (lists halt : List (List PathNo)) → total_in case lists ≤ n → lists_after case n lists ≡ halt → loses_none case lists ≡ false
      → (k : ℕ) × (total_in case (one_round case lists) ≤ k) × (lists_after case k (one_round case lists) ≡ halt)
  halt_more zero lists halt few is other = let fewer = takes_one lists other in absurd (omega arith)
  halt_more (suc n) lists halt few is other =
      let fewer = takes_one lists other in
      (n, omega arith, rw other at is)

  -- so many rounds lead to a halt
  halts : (n : ℕ) (lists : List (List PathNo)) → total_in case lists ≤ n → loses_none case (lists_after case n lists) ≡ true
  halts zero lists few =
      elim (cases_Bool (loses_none case lists)) [
        | inl b ↦ b
        | inr b ↦ (let fewer = takes_one lists b in absurd (omega arith))
      ]
  halts (suc n) lists few =
      elim (cases_Bool (loses_none case lists)) [
        | inl b ↦ rw b b
        | inr b ↦ rw b (let fewer = takes_one lists b in halts n (one_round case lists) (omega arith))
      ]

  pub halt_keeps : (lists : List (List PathNo)) → loses_none case (halt_within case lists) ≡ true
  halt_keeps lists = halts (total_in case lists) lists (omega arith)

  -- what every round keeps, the halt has
  pub halt_has : (P : List (List PathNo) → Type 0) → ((lists : List (List PathNo)) → P lists → P (one_round case lists)) → (n : ℕ) (lists : List (List PathNo)) → P lists
      → P (lists_after case n lists)
  halt_has P more zero lists p = p
  halt_has P more (suc n) lists p =
      elim (cases_Bool (loses_none case lists)) [
        | inl b ↦ rw b p
        | inr b ↦ rw b (halt_has P more n (one_round case lists) (more lists p))
      ]

  -- ---- as tables of the code

  module _ (lists next : List (Vec PathNo Global)) (is : items next ≡ one_round case (items lists)) where
    next_long : length next ≡ case.net.nodes
    next_long = sym (length-map next (λ (v : Vec PathNo Global). v.items)) ∙ (ap length is ∙ round_long (items lists))

    row_kept : (v : ℕ) → v < case.net.nodes → length (row next v) ≡ length (left_at case (items lists) v)
    row_kept v here = ap length (ap (λ ls. get_or ls v []) is ∙ at_round (items lists) v here)

    pub goes_on : (v : ℕ) → v < length next → (length (row next v) ≡ length (row lists v) → ⊥) → loses_none case (items lists) ≡ false
    goes_on v within apart =
        let long = next_long in
        elim (cases_Bool (loses_none case (items lists))) [
          | inr b ↦ b
          | inl b ↦ absurd (apart (row_kept v (omega arith)
              ∙ long_at (left_at case (items lists)) (list_at (items lists)) routers b v (range_has v 0 case.net.nodes (omega arith) (omega arith))))
        ]

    pub is_over : ((v : ℕ) → v < length next → length (row next v) ≡ length (row lists v)) → loses_none case (items lists) ≡ true
    is_over same =
        let long = next_long in
        all_long (left_at case (items lists)) (list_at (items lists)) routers
        (λ v i. let r = in_range v 0 case.net.nodes i in sym (row_kept v (omega arith)) ∙ same v (omega arith))

    -- as slices of the code
    pub not_last : (one two : List (Vec PathNo Global)) → one ≡ lists → two ≡ next → (v : ℕ) × (v < length two) × (length (row two v) ≡ length (row one v) → ⊥)
        → loses_none case (items lists) ≡ false
    not_last one two e f found =
        goes_on found.0 (subst (λ xs. found.0 < length xs) f found.1)
        (λ same. found.2 (ap (λ xs. length (row xs found.0)) f ∙ (same ∙ ap (λ xs. length (row xs found.0)) (sym e))))

    pub next_as_long : AreLists case (items lists) → length next ≡ length lists
    next_as_long are = next_long ∙ (sym are.long ∙ length-map lists (λ (v : Vec PathNo Global). v.items))
