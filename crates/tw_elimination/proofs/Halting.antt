-- Lists of all routers, round by round, and the round at which they come to a halt.
use Rattle.std.proofs.Common.{◌≡◌, ℕ, zero, suc, ◌+◌, ◌*◌, ◌<◌, ◌≤◌, ◌==◌, Bool, true, false, not, ◌&&◌, List, [], ◌∷◌, ◌++◌, get_or, length, map, Global, Some, below_more, refl, ap, ap₂, sym, ◌∙◌, subst, inl, inr, arith, if◌then◌else◌}
use Rattle.std.specs.declared.vec.Vec.{Vec}
use Rattle.std.specs.List.{All, find, list_all, range_with_len}
use Rattle.std.specs.Option.{unwrap_or}
use Rattle.std.proofs.lemmas.Bool.{cases_Bool, cases_eq, cases_lt, both_ways, and_parts, eqb-true, eq-eqb, ltb-true}
use Rattle.std.proofs.lemmas.List.{get_or_past, length-map, map-append}
use Rattle.std.proofs.lemmas.List.FromFn.{get_or-map-range_with_len, length-map-range_with_len, length-range_with_len, map-range_with_len_more}
use Rattle.tw_event.specs.declared.event.PathNo.{PathNo}
use Rattle.tw_instance.specs.Tables.{items, row}
use Rattle.tw_model.specs.Case.{Case, IsCase}
use Rattle.tw_model.specs.Net.{IsPath, Net, empty_path, hops_of, origin_path}
use Rattle.tw_model.specs.State.{Router, State, has_peer, hop, slot}
use Rattle.tw_model.proofs.Nets.{hop_in_hops, hop_of, hop_slot, nodes_within}
use Rattle.tw_model.proofs.Paths.{own_is_path}
use Rattle.tw_sim.proofs.Members.{In, all_from_in, in_append, in_from_all, in_range, range_has}
use Rattle.tw_policy.specs.Left.{is_covered, is_given, remaining, round_left}
use Rattle.tw_policy.specs.Search.{total}
use Rattle.tw_policy.specs.Standing.{standing}
use Rattle.tw_policy.proofs.Cases.{standing_own}
use Rattle.tw_policy.proofs.Halts as halts
use Rattle.tw_elimination.specs.Standing.{standing_router, standing_routers}
use Rattle.tw_elimination.specs.Rounds.{AreLeft, is_halted, left_in, rounds_of, total_left}

-- ---- paths that are left are paths of the net

in_remaining : (net : Net) (states : ℕ → State) (left : ℕ → List PathNo) (v : ℕ) (better order : List PathNo) (q : PathNo)
    → In q (remaining net states left v better order) → In q (order ++ empty_path ∷ [])
in_remaining net states left v better [] q i =
    elim (cases_Bool (is_covered net states left v better)) [
      | inl b ↦ (let j : In q [] = rw b at i in absurd j)
      | inr b ↦ rw b at i
    ]
in_remaining net states left v better (x ∷ order) q i =
    elim (cases_Bool (is_given net states left v x && not (is_covered net states left v better))) [
      | inl b ↦ (
          let j : In q (x ∷ remaining net states left v (better ++ x ∷ []) order) = rw b at i in
          elim j [ inl e ↦ inl e | inr k ↦ inr (in_remaining net states left v (better ++ x ∷ []) order q k) ])
      | inr b ↦ inr (in_remaining net states left v (better ++ x ∷ []) order q (rw b at i))
    ]

-- a neighbour is one of the routers
pub peer_below : (net : Net) (v w : ℕ) → has_peer net v w ≡ true → w < net.nodes
peer_below net v w there =
    subst (λ z. z < net.nodes) (hop_slot net v w there)
    (hop_of net v (hop net v (slot net v w)) (hop_in_hops net v (slot net v w) (ltb-true (slot net v w) (length (hops_of net v)) there))).2

module _ (case : Case) (is : IsCase case) where
  behind_paths : (v : ℕ) (q : PathNo) → In q ((standing case v).order ++ empty_path ∷ []) → IsPath case.net q
  behind_paths v q i =
      elim (in_append q (standing case v).order (empty_path ∷ []) i) [
        | inl k ↦ (own_is_path case.net v q (standing_own case is v q k)).0
        | inr k ↦ elim k [ inl e ↦ subst (IsPath case.net) (sym e) (omega arith) | inr none ↦ absurd none ]
      ]

  in_left : (n v : ℕ) (q : PathNo) → In q (left_in case n v) → In q (if v == 0 then origin_path ∷ [] else (standing case v).order ++ empty_path ∷ [])
  in_left zero v q i = i
  in_left (suc n) v q i =
      elim (cases_Bool (v == 0)) [
        | inl b ↦ (let j : In q (origin_path ∷ []) = rw b at i in rw b j)
        | inr b ↦ rw b (in_remaining case.net (standing case) (left_in case n) v [] (standing case v).order q (rw b at i))
      ]

  pub left_paths : (n v : ℕ) → All (IsPath case.net) (left_in case n v)
  left_paths n v =
      all_from_in (IsPath case.net) (left_in case n v) (λ q i. elim (cases_Bool (v == 0)) [
        | inl b ↦ (
            let j : In q (origin_path ∷ []) = rw b at (in_left n v q i) in
            elim j [ inl e ↦ subst (IsPath case.net) (sym e) (omega arith) | inr none ↦ absurd none ])
        | inr b ↦ behind_paths v q (rw b at (in_left n v q i))
      ])

  -- ---- the rows of the lists of all routers

  pub row_is : (n : ℕ) (lists : List (List PathNo)) → AreLeft case n lists → (v : ℕ) → v < case.net.nodes → get_or lists v [] ≡ left_in case n v
  row_is n lists are v within = ap (λ xs. get_or xs v []) are ∙ get_or-map-range_with_len (left_in case n) 0 case.net.nodes v v [] within (omega arith)

  pub lists_long : (n : ℕ) (lists : List (List PathNo)) → AreLeft case n lists → length lists ≡ case.net.nodes
  lists_long n lists are = ap length are ∙ length-map-range_with_len (left_in case n) 0 case.net.nodes

  pub row_paths : (n : ℕ) (lists : List (List PathNo)) → AreLeft case n lists → (w : ℕ) → All (IsPath case.net) (get_or lists w [])
  row_paths n lists are w =
      elim (cases_lt w case.net.nodes) [
        | inl low ↦ subst (All (IsPath case.net)) (sym (row_is n lists are w low)) (left_paths n w)
        | inr high ↦ (
            let past : get_or lists w [] ≡ [] = get_or_past lists w [] (let l = lists_long n lists are in omega arith) in
            subst (All (IsPath case.net)) (sym past) (λ k d within. absurd (omega arith)))
      ]

  -- one round from these lists
  pub next_is : (n : ℕ) (lists : List (List PathNo)) → AreLeft case n lists → (v : ℕ) → round_left case.net (standing case) (λ w. get_or lists w []) v ≡ left_in case (suc n) v
  next_is n lists are v =
      ap (λ xs. if v == 0 then origin_path ∷ [] else xs)
      (halts.remaining_same case.net (standing case) (λ w. get_or lists w []) (left_in case n) v (λ w there. row_is n lists are w (peer_below case.net v w there)) [] (standing case v).order)

-- the lists of one router more
pub list_more : (case : Case) (n k : ℕ) (old new : List (Vec PathNo Global)) (x : Vec PathNo Global) → new ≡ old ++ x ∷ [] → items old ≡ map (left_in case n) (range_with_len 0 k)
    → x.items ≡ left_in case n k → items new ≡ map (left_in case n) (range_with_len 0 (k + 1))
list_more case n k old new x pushed before is =
    ap items pushed ∙ (map-append (λ (v : Vec PathNo Global). v.items) old (x ∷ [])
    ∙ (ap₂ (λ l y. l ++ y ∷ []) before is ∙ sym (map-range_with_len_more (left_in case n) 0 k k (omega arith))))

-- ---- the halt

module _ (case : Case) where
  abbrev routers : List ℕ
  routers = range_with_len 0 case.net.nodes

  -- where all lists are as long, all together are
  same_total : (one two : ℕ → List PathNo) (vs : List ℕ) → list_all (λ v. length (one v) == length (two v)) vs ≡ true → total one vs ≡ total two vs
  same_total one two [] h = refl
  same_total one two (v ∷ vs) h =
      let parts = and_parts (length (one v) == length (two v)) (list_all (λ v. length (one v) == length (two v)) vs) h in
      let here = eqb-true (length (one v)) (length (two v)) parts.0 in
      let more = same_total one two vs parts.1 in
      omega arith

  all_long : (one two : ℕ → List PathNo) (vs : List ℕ) → ((v : ℕ) → In v vs → length (one v) ≡ length (two v)) → list_all (λ v. length (one v) == length (two v)) vs ≡ true
  all_long one two [] h = refl
  all_long one two (v ∷ vs) h = rw (eq-eqb (length (one v)) (length (two v)) (h v (inl refl))) (all_long one two vs (λ w k. h w (inr k)))

  all_same_at : (one two : ℕ → List PathNo) (vs : List ℕ) → list_all (λ v. length (one v) == length (two v)) vs ≡ true → (v : ℕ) → In v vs → length (one v) ≡ length (two v)
  all_same_at one two (w ∷ vs) h v (inl e) =
      let parts = and_parts (length (one w) == length (two w)) (list_all (λ v. length (one v) == length (two v)) vs) h in
      subst (λ z. length (one z) ≡ length (two z)) (sym e) (eqb-true (length (one w)) (length (two w)) parts.0)
  all_same_at one two (w ∷ vs) h v (inr k) =
      all_same_at one two vs (and_parts (length (one w) == length (two w)) (list_all (λ v. length (one v) == length (two v)) vs) h).1 v k
  all_same_at one two [] h v k = absurd k

  pub halted : (n : ℕ) → ((v : ℕ) → v < case.net.nodes → length (left_in case (suc n) v) ≡ length (left_in case n v)) → is_halted case n ≡ true
  halted n h = all_long (left_in case (suc n)) (left_in case n) routers (λ v i. h v (let r = in_range v 0 case.net.nodes i in omega arith))

  pub not_halted : (n v : ℕ) → v < case.net.nodes → (length (left_in case (suc n) v) ≡ length (left_in case n v) → ⊥) → is_halted case n ≡ false
  not_halted n v within apart =
      elim (cases_Bool (is_halted case n)) [
        | inr b ↦ b
        | inl b ↦ absurd (apart (all_same_at (left_in case (suc n)) (left_in case n) routers b v (range_has v 0 case.net.nodes (omega arith) (omega arith))))
      ]

  -- a round that is not the last takes a path
  pub takes_one : (n : ℕ) → is_halted case n ≡ false → total_left case (suc n) < total_left case n
  takes_one n other =
      elim (halts.fewer case.net (standing case) n) [
        | inl less ↦ less
        | inr same ↦ absurd (both_ways (is_halted case n) other (halted n (λ v within. ap length (same v within))))
      ]

  -- the first number that passes
  first_found : (test : ℕ → Bool) (a n k : ℕ) → a ≤ k → k < a + n → test k ≡ true → ((m : ℕ) → a ≤ m → m < k → test m ≡ false) → find test (range_with_len a n) ≡ Some k
  first_found test a zero k low high passes before = absurd (omega arith)
  first_found test a (suc n) k low high passes before =
      elim (cases_eq a k) [
        | inl e ↦ (let here : test a ≡ true = ap test e ∙ passes in rw here (ap Some e))
        | inr apart ↦ rw (before a (omega arith) (omega arith)) (first_found test (a + 1) n k (omega arith) (omega arith) passes (λ m l h. before m (omega arith) h))
      ]

  pub rounds_are : (k : ℕ) → is_halted case k ≡ true → ((m : ℕ) → m < k → is_halted case m ≡ false) → k + total_left case k ≤ total_left case 0 → k ≡ rounds_of case
  unfolding rounds_of
  rounds_are k over before few =
      ap (λ o. unwrap_or o 0) (sym (first_found (is_halted case) 0 (suc (total_left case 0)) k (omega arith) (omega arith) over (λ m low high. before m high)))

-- so many lists of at most this length
total_most : (f : ℕ → List PathNo) (most : ℕ) (vs : List ℕ) → ((v : ℕ) → In v vs → length (f v) ≤ most) → total f vs ≤ most * length vs
total_most f most [] h = omega arith
total_most f most (v ∷ vs) h =
    let here = h v (inl refl) in
    let more = total_most f most vs (λ w k. h w (inr k)) in
    omega arith

pub few_in_all : (case : Case) (lists : List (List PathNo)) (most : ℕ) → AreLeft case 0 lists → All (λ paths. length paths ≤ most) lists → total_left case 0 ≤ most * case.net.nodes
few_in_all case lists most are few =
    let vs = range_with_len 0 case.net.nodes in
    let all = total_most (left_in case 0) most vs (λ v i.
    let r = in_range v 0 case.net.nodes i in
    let long : length lists ≡ case.net.nodes = ap length are ∙ length-map-range_with_len (left_in case 0) 0 case.net.nodes in
    let row : get_or lists v [] ≡ left_in case 0 v = ap (λ xs. get_or xs v []) are ∙ get_or-map-range_with_len (left_in case 0) 0 case.net.nodes v v [] (omega arith) (omega arith) in
    subst (λ paths. length paths ≤ most) row (few v [] (omega arith))) in
    subst (λ n. total_left case 0 ≤ most * n) (length-range case.net.nodes) all where
      length-range : (n : ℕ) → length (range_with_len 0 n) ≡ n
      length-range n = length-range_with_len 0 n

-- ---- the routers

pub routers_long : (case : Case) (all : List Router) → all ≡ standing_routers case → length all ≡ case.net.nodes
routers_long case all are = ap length are ∙ length-map-range_with_len (standing_router case) 0 case.net.nodes

pub router_is : (case : Case) (all : List Router) (v : ℕ) (d : Router) → all ≡ standing_routers case → v < length all → get_or all v d ≡ standing_router case v
router_is case all v d are within =
    let long = routers_long case all are in
    ap (λ xs. get_or xs v d) are ∙ get_or-map-range_with_len (standing_router case) 0 case.net.nodes v v d (omega arith) (omega arith)

-- lists of at most this length, and one more
pub few_more : (old new : List (Vec PathNo Global)) (x : Vec PathNo Global) (most : ℕ) → new ≡ old ++ x ∷ [] → All (λ paths. length paths ≤ most) (items old) → length x.items ≤ most
    → All (λ paths. length paths ≤ most) (items new)
few_more old new x most pushed few more =
    subst (All (λ paths. length paths ≤ most)) (sym (ap items pushed ∙ map-append (λ (v : Vec PathNo Global). v.items) old (x ∷ [])))
    (all_from_in (λ paths. length paths ≤ most) (items old ++ x.items ∷ []) (λ paths i. elim (in_append paths (items old) (x.items ∷ []) i) [
      | inl k ↦ in_from_all (λ paths. length paths ≤ most) (items old) few paths k
      | inr k ↦ elim k [ inl e ↦ subst (λ ps. length ps ≤ most) (sym e) more | inr none ↦ absurd none ]
    ]))

-- ---- what the lists of two rounds tell

module _ (case : Case) (is : IsCase case) (n : ℕ) (left next : List (Vec PathNo Global)) (now : AreLeft case n (items left)) (later : AreLeft case (suc n) (items next)) where
  same_length : length next ≡ case.net.nodes
  same_length = sym (length-map next (λ (v : Vec PathNo Global). v.items)) ∙ lists_long case is (suc n) (items next) later

  pub as_long : length next ≡ length left
  as_long = same_length ∙ (sym (lists_long case is n (items left) now) ∙ length-map left (λ (v : Vec PathNo Global). v.items))

  rows_are : (v : ℕ) → v < case.net.nodes → (length (row next v) ≡ length (left_in case (suc n) v)) × (length (row left v) ≡ length (left_in case n v))
  rows_are v within = (ap length (row_is case is (suc n) (items next) later v within), ap length (row_is case is n (items left) now v within))

  pub goes_on : (v : ℕ) → v < length next → (length (row next v) ≡ length (row left v) → ⊥) → is_halted case n ≡ false
  goes_on v within apart =
      let long = same_length in
      let rows = rows_are v (omega arith) in
      not_halted case n v (omega arith) (λ e. apart (rows.0 ∙ (e ∙ sym rows.1)))

  pub is_over : ((v : ℕ) → v < length next → length (row next v) ≡ length (row left v)) → is_halted case n ≡ true
  is_over same = halted case n (λ v within.
      let long = same_length in
      let rows = rows_are v within in
      sym rows.0 ∙ (same v (omega arith) ∙ rows.1))

-- as many paths as a case can have
pub few_of_case : (case : Case) → IsCase case → (lists : List (List PathNo)) → AreLeft case 0 lists → All (λ paths. length paths ≤ 201) lists → total_left case 0 ≤ 205824
few_of_case case is lists are few =
    let all = few_in_all case lists 201 are few in
    let nodes = nodes_within case.net.nodes is.net.nodes in
    let most = nodes.1 in
    omega arith

-- ---- one round more

pub add_one : (n : ℕ) → suc n ≡ n + 1
add_one n = omega arith

pub left_more : (case : Case) (n : ℕ) (lists : List (List PathNo)) → AreLeft case (suc n) lists → AreLeft case (n + 1) lists
left_more case n lists are = subst (λ m. AreLeft case m lists) (add_one n) are

pub less_more : (case : Case) (n : ℕ) → is_halted case n ≡ false → total_left case (n + 1) < total_left case n
less_more case n other = subst (λ m. total_left case m < total_left case n) (add_one n) (takes_one case n other)

pub before_more : (case : Case) (n : ℕ) → ((m : ℕ) → m < n → is_halted case m ≡ false) → is_halted case n ≡ false → (m : ℕ) → m < n + 1 → is_halted case m ≡ false
before_more case n before here = below_more (λ m. is_halted case m ≡ false) n before here

-- ---- as slices

pub fewer_found : (case : Case) → IsCase case → (n : ℕ) (left next : List (Vec PathNo Global)) → AreLeft case n (items left) → AreLeft case (suc n) (items next)
    → (one two : List (Vec PathNo Global)) → one ≡ left → two ≡ next → (v : ℕ) × (v < length two) × (length (row two v) ≡ length (row one v) → ⊥) → is_halted case n ≡ false
fewer_found case is n left next now later one two e f found =
    goes_on case is n left next now later found.0 (subst (λ xs. found.0 < length xs) f found.1)
    (λ same. found.2 (ap (λ xs. length (row xs found.0)) f ∙ (same ∙ ap (λ xs. length (row xs found.0)) (sym e))))

pub none_found : (left next one two : List (Vec PathNo Global)) → one ≡ left → two ≡ next → ((v : ℕ) → v < length two → length (row two v) ≡ length (row one v))
    → (v : ℕ) → v < length next → length (row next v) ≡ length (row left v)
none_found left next one two e f same v within =
    ap (λ xs. length (row xs v)) (sym f) ∙ (same v (subst (λ xs. v < length xs) (sym f) within) ∙ ap (λ xs. length (row xs v)) e)

-- ---- there is a halt

-- the first of these numbers that passes, where one does
search_finds : (test : ℕ → Bool) (a n k : ℕ) → a ≤ k → k < a + n → test k ≡ true
    → (m : ℕ) × (find test (range_with_len a n) ≡ Some m) × (test m ≡ true) × ((j : ℕ) → a ≤ j → j < m → test j ≡ false)
search_finds test a zero k low high passes = absurd (omega arith)
search_finds test a (suc n) k low high passes =
    elim (cases_Bool (test a)) [
      | inl b ↦ (a, rw b refl, b, λ j l h. absurd (omega arith))
      | inr b ↦ (
          let later : a + 1 ≤ k = elim (cases_eq a k) [ inl e ↦ absurd (both_ways (test k) (subst (λ z. test z ≡ false) e b) passes) | inr apart ↦ omega arith ] in
          let more = search_finds test (a + 1) n k later (omega arith) passes in (
            more.0,
            rw b more.1,
            more.2,
            λ j l h. elim (cases_eq a j) [
              | inl e ↦ subst (λ z. test z ≡ false) e b
              | inr apart ↦ more.3 j (omega arith) h
            ],
          ))
    ]

module _ (case : Case) where
  halt_found : (m : ℕ) × (find (is_halted case) (range_with_len 0 (suc (total_left case 0))) ≡ Some m) × (is_halted case m ≡ true) × ((j : ℕ) → 0 ≤ j → j < m → is_halted case j ≡ false)
  halt_found =
      let h = halts.halts case.net (standing case) in
      let soon = h.1 in
      search_finds (is_halted case) 0 (suc (total_left case 0)) h.0 (omega arith) (omega arith) (halted case h.0 (λ v within. ap length (h.2 v within)))

  found_rounds : halt_found.0 ≡ rounds_of case
  unfolding rounds_of
  found_rounds = ap (λ o. unwrap_or o 0) (sym halt_found.1)

  -- before that each round takes a path
  pub takes_before : (n : ℕ) → n < rounds_of case → total_left case (suc n) < total_left case n
  takes_before n before = let e = found_rounds in takes_one case n (halt_found.3 n (omega arith) (omega arith))

  -- and then nothing changes
  pub stays : (k v : ℕ) → v < case.net.nodes → left_in case (rounds_of case + k) v ≡ left_in case (rounds_of case) v
  stays k v within =
      let over = subst (λ n. is_halted case n ≡ true) found_rounds halt_found.2 in
      halts.over case.net (standing case) (rounds_of case) (λ w here. last over w here) k v within where
        last : is_halted case (rounds_of case) ≡ true → (v : ℕ) → v < case.net.nodes → left_in case (suc (rounds_of case)) v ≡ left_in case (rounds_of case) v
        last over v within =
            elim (halts.fewer case.net (standing case) (rounds_of case)) [
              | inl less ↦ (let same = same_total case (left_in case (suc (rounds_of case))) (left_in case (rounds_of case)) (routers case) over in absurd (omega arith))
              | inr same ↦ same v within
            ]
