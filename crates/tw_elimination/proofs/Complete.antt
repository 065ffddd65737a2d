-- Where all paths can stand in one list, each router puts all of its paths into it.
use Rattle.std.proofs.Common.{◌≡◌, ℕ, suc, zero, ◌+◌, ◌<◌, ◌≤◌, ◌==◌, true, false, List, [], ◌∷◌, drop, filter, get_or, length, map, Option, Some, None, refl, ap, sym, ◌∙◌, subst, ◌⊎◌, inl, inr, arith, nat_lt, if◌then◌else◌}
use Rattle.std.specs.List.{find, range_with_len}
use Rattle.std.specs.Option.{unwrap_or}
use Rattle.std.proofs.lemmas.Bool.{cases_Bool, cases_lt, and_from, both_ways, eq-eqb, eqb-true, false≢true, lt-ltb, ltb-false, ne_eqb, or_parts}
use Rattle.std.proofs.lemmas.List.{length-map}
use Rattle.std.proofs.lemmas.List.FromFn.{get_or-map-range_with_len, length-range_with_len}
use Rattle.tw_event.specs.declared.event.PathNo.{PathNo}
use Rattle.tw_model.specs.Net.{IsPath, Net, begins_at, empty_path, path, paths, paths_of, same_path}
use Rattle.tw_model.specs.Rules.{IsNet}
use Rattle.tw_model.specs.State.{line_of, opening}
use Rattle.tw_model.proofs.Paths.{in_paths_of, path_some, same_path_is}
use Rattle.tw_sim.proofs.Members.{In, in_find, in_from_all, in_get_or, in_range, place_within}
use Rattle.tw_policy.specs.OneList.{Ascends, IsOneList}
use Rattle.tw_policy.proofs.Lists.{all_from}
use Rattle.tw_elimination.specs.Placing.{are_placed, counts_after, has_one_list, may_follow, next_count}
use Rattle.tw_elimination.specs.Wheel.{first_node, number_of}
use Rattle.tw_elimination.proofs.Listing.{at_place, count, count_few, grows, halts_with, own_below}
use Rattle.tw_elimination.proofs.PathNumbers.{is_number, numbers}

-- ---- no more paths begin at routers than there are

abbrev hits : List ℕ → List ℕ → ℕ
hits p [] = 0
hits p (v ∷ vs) = (if begins_at p v then 1 else 0) + hits p vs

begins_lower : (p : List ℕ) (a v : ℕ) → begins_at p a ≡ true → a < v → begins_at p v ≡ false
begins_lower [] a v b apart = absurd (false≢true b)
begins_lower (x ∷ p) a v b apart = let here = eqb-true x a b in ne_eqb x v (λ e. omega arith)

none_hit : (p : List ℕ) (a n : ℕ) → ((v : ℕ) → a ≤ v → begins_at p v ≡ false) → hits p (range_with_len a n) ≡ 0
none_hit p a zero none = refl
none_hit p a (suc n) none = let more = none_hit p (a + 1) n (λ v high. none v (omega arith)) in rw (none a (omega arith)) (omega arith)

one_hit : (p : List ℕ) (a n : ℕ) → hits p (range_with_len a n) ≤ 1
one_hit p a zero = omega arith
one_hit p a (suc n) =
    elim (cases_Bool (begins_at p a)) [
      | inl b ↦ (let none = none_hit p (a + 1) n (λ v high. begins_lower p a v b (omega arith)) in rw b (omega arith))
      | inr b ↦ (let more = one_hit p (a + 1) n in rw b (omega arith))
    ]

abbrev pub sum_of : (ℕ → ℕ) → List ℕ → ℕ
sum_of f [] = 0
sum_of f (v ∷ vs) = f v + sum_of f vs

sum_agree : (f g : ℕ → ℕ) → ((v : ℕ) → f v ≡ g v) → (vs : List ℕ) → sum_of f vs ≡ sum_of g vs
sum_agree f g same [] = refl
sum_agree f g same (v ∷ vs) = let here = same v in let more = sum_agree f g same vs in omega arith

sum_most : (f g : ℕ → ℕ) → ((v : ℕ) → f v ≤ g v) → (vs : List ℕ) → sum_of f vs ≤ sum_of g vs
sum_most f g most [] = omega arith
sum_most f g most (v ∷ vs) = let here = most v in let more = sum_most f g most vs in omega arith

pub more_or_same : (f g : ℕ → ℕ) → ((v : ℕ) → f v ≤ g v) → (vs : List ℕ) → (sum_of f vs < sum_of g vs) ⊎ ((v : ℕ) → In v vs → g v ≡ f v)
more_or_same f g most [] = inr (λ v i. absurd i)
more_or_same f g most (v ∷ vs) =
    let here = most v in
    let rest = sum_most f g most vs in
    elim (cases_lt (f v) (g v)) [
      | inl less ↦ inl (omega arith)
      | inr high ↦ elim (more_or_same f g most vs) [
        | inl less ↦ inl (omega arith)
        | inr same ↦ inr (λ w i. elim i [ inl e ↦ subst (λ z. g z ≡ f z) (sym e) (omega arith) | inr k ↦ same w k ])
      ]
    ]

abbrev begin_at : (ℕ → List ℕ) → List ℕ → ℕ → ℕ
begin_at f ks v = length (filter (λ k. begins_at (f k) v) ks)

sum_split : (f : ℕ → List ℕ) (k : ℕ) (ks vs : List ℕ) → sum_of (begin_at f (k ∷ ks)) vs ≡ hits (f k) vs + sum_of (begin_at f ks) vs
sum_split f k ks [] = refl
sum_split f k ks (v ∷ vs) =
    let more = sum_split f k ks vs in
    elim (cases_Bool (begins_at (f k) v)) [ inl b ↦ rw b (omega arith) | inr b ↦ rw b (omega arith) ]

sum_none : (f : ℕ → List ℕ) (vs : List ℕ) → sum_of (begin_at f []) vs ≡ 0
sum_none f [] = refl
sum_none f (v ∷ vs) = let more = sum_none f vs in omega arith

sum_few : (f : ℕ → List ℕ) (n : ℕ) (ks : List ℕ) → sum_of (begin_at f ks) (range_with_len 0 n) ≤ length ks
sum_few f n [] = let none = sum_none f (range_with_len 0 n) in omega arith
sum_few f n (k ∷ ks) =
    let one = one_hit (f k) 0 n in
    let more = sum_few f n ks in
    let split = sum_split f k ks (range_with_len 0 n) in
    omega arith

pub paths_few : (net : Net) → sum_of (λ v. length (paths_of net v)) (range_with_len 0 net.nodes) ≤ length (paths net)
unfolding paths_of
paths_few net =
    let f : ℕ → List ℕ = λ k. get_or (paths net) k [] in
    let ks = range_with_len 0 (length (paths net)) in
    let few = sum_few f net.nodes ks in
    let long = length-range_with_len 0 (length (paths net)) in
    let same = sum_agree (λ v. length (paths_of net v)) (begin_at f ks)
    (λ v. length-map (filter (λ k. begins_at (f k) v) ks) (λ k. let q : PathNo = record { 0 = k } in q)) (range_with_len 0 net.nodes) in
    omega arith

-- ---- the rounds come to a halt

map_agree : (f g : ℕ → ℕ) (vs : List ℕ) → ((v : ℕ) → In v vs → f v ≡ g v) → map f vs ≡ map g vs
map_agree f g [] same = refl
map_agree f g (v ∷ vs) same = ap (λ x. x ∷ map f vs) (same v (inl refl)) ∙ ap (λ xs. g v ∷ xs) (map_agree f g vs (λ w k. same w (inr k)))

-- a number that is told is that of a path with these nodes
pub number_found : (net : Net) (nodes : List ℕ) → ((number_of net nodes).0 == 0) ≡ false → IsPath net (number_of net nodes) × (path net (number_of net nodes) ≡ nodes)
unfolding number_of
number_found net nodes some = at (find (λ q. same_path (path net q) nodes) (numbers net)) refl where
  at : (o : Option PathNo) → find (λ q. same_path (path net q) nodes) (numbers net) ≡ o → IsPath net (number_of net nodes) × (path net (number_of net nodes) ≡ nodes)
  at None e = absurd (both_ways ((number_of net nodes).0 == 0) some (ap (λ o. (unwrap_or o empty_path).0 == 0) e))
  at (Some q) e =
      let met = in_find (λ q. same_path (path net q) nodes) q (numbers net) e in
      let is : number_of net nodes ≡ q = ap (λ o. unwrap_or o empty_path) e in
      subst (λ z. IsPath net z × (path net z ≡ nodes)) (sym is) (is_number net q met.1, same_path_is (path net q) nodes met.0)

-- places rise along an order
rises : (place : PathNo → ℕ) (order : List PathNo) (d : PathNo) → Ascends place order → (i j : ℕ) → i ≤ j → j < length order → place (get_or order i d) ≤ place (get_or order j d)
rises place [] d up i j low within = absurd (omega arith)
rises place (p ∷ order) d up zero zero low within = omega arith
rises place (p ∷ order) d up zero (suc j) low within = let less = up.0 j d (omega arith) in omega arith
rises place (p ∷ order) d up (suc i) zero low within = absurd (omega arith)
rises place (p ∷ order) d up (suc i) (suc j) low within = rises place order d up.1 i j (omega arith) (omega arith)

module _ (net : Net) (net_is : IsNet net) where
  abbrev routers : List ℕ
  routers = range_with_len 0 net.nodes

  counts_are : (n : ℕ) → counts_after net n ≡ map (count net net_is n) routers
  counts_are zero =
      map_agree (λ v. 0) (count net net_is 0) routers (λ v i. let low = in_range v 0 net.nodes i in sym (get_or-map-range_with_len (λ (w : ℕ). 0) 0 net.nodes v v 0 (omega arith) (omega arith)))
  counts_are (suc n) =
      map_agree (next_count net (counts_after net n)) (count net net_is (suc n)) routers
      (λ v i. let low = in_range v 0 net.nodes i in sym (get_or-map-range_with_len (next_count net (counts_after net n)) 0 net.nodes v v 0 (omega arith) (omega arith)))

  -- a round that changes nothing comes within so many
  pub halt_from : (m n : ℕ) → sum_of (λ v. length (paths_of net v)) routers ≤ sum_of (count net net_is n) routers + m
      → (k : ℕ) × (k ≤ n + m) × (counts_after net (suc k) ≡ counts_after net k)
  halt_from zero n few =
      elim (more_or_same (count net net_is n) (count net net_is (suc n)) (λ v. (grows net net_is n v).0) routers) [
        | inr same ↦ (n, omega arith, counts_are (suc n) ∙ (map_agree (count net net_is (suc n)) (count net net_is n) routers same ∙ sym (counts_are n)))
        | inl less ↦ (
            let most = sum_most (count net net_is (suc n)) (λ v. length (paths_of net v)) (count_few net net_is (suc n)) routers in
            absurd (omega arith))
      ]
  halt_from (suc m) n few =
      elim (more_or_same (count net net_is n) (count net net_is (suc n)) (λ v. (grows net net_is n v).0) routers) [
        | inr same ↦ (n, omega arith, counts_are (suc n) ∙ (map_agree (count net net_is (suc n)) (count net net_is n) routers same ∙ sym (counts_are n)))
        | inl less ↦ (let more = halt_from m (suc n) (omega arith) in let soon = more.1 in (more.0, omega arith, more.2))
      ]

  -- ---- at the halt no router waits

  module _ (place : PathNo → ℕ) (is : IsOneList net (opening net) place) (n : ℕ) (halt : counts_after net (suc n) ≡ counts_after net n) where
    abbrev next_path : ℕ → PathNo
    next_path v = get_or (paths_of net v) (count net net_is n v) empty_path

    blocked : (v : ℕ) → v < net.nodes → count net net_is n v < length (paths_of net v) → may_follow net (counts_after net n) (next_path v) ≡ false
    blocked v low short =
        elim (cases_Bool (may_follow net (counts_after net n) (next_path v))) [
          | inr b ↦ b
          | inl b ↦ (
              let k = count net net_is n v in
              let next : count net net_is (suc n) v ≡ next_count net (counts_after net n) v = get_or-map-range_with_len (next_count net (counts_after net n)) 0 net.nodes v v 0 low (omega arith) in
              let more : next_count net (counts_after net n) v ≡ k + 1
              = ap (λ c. if c then k + 1 else k) (and_from (nat_lt k (length (paths_of net v))) (may_follow net (counts_after net n) (next_path v)) (lt-ltb k (length (paths_of net v)) short) b) in
              let same : count net net_is (suc n) v ≡ k = ap (λ xs. get_or xs v 0) halt in
              absurd (omega arith))
        ]

    stuck : (m v : ℕ) → v < net.nodes → count net net_is n v < length (paths_of net v) → place (next_path v) < m → ⊥
    stuck zero v low short few = omega arith
    stuck (suc m) v low short few =
        let q = next_path v in
        let q_in : In q (paths_of net v) = in_get_or (paths_of net v) (count net net_is n v) empty_path short in
        let rest = drop 1 (path net q) in
        let r = number_of net rest in
        let w = first_node (path net r) in
        let parts = or_parts (r.0 == 0) (nat_lt (line_of net w r) (count net net_is n w)) (blocked v low short) in
        let found = number_found net rest parts.0 in
        let nodes : path net q ≡ v ∷ path net r = splits (path net q) v ((in_paths_of net v q).0 q_in).1 ∙ ap (λ ns. v ∷ ns) (sym found.1) in
        let before = in_from_all (λ q. (r : PathNo) → path net q ≡ v ∷ path net r → place r < place q) (paths_of net v) (is.goes_on v) q q_in r nodes in
        let r_in : In r (paths_of net w) = (in_paths_of net w r).1 (found.0, starts (path net r) (λ e. numbered r found.0 parts.0 e)) in
        let here : get_or (paths_of net w) (line_of net w r) empty_path ≡ r = at_place r (paths_of net w) empty_path r_in in
        let within : line_of net w r < length (paths_of net w) = place_within (λ p. p.0 == r.0) r (paths_of net w) (eq-eqb r.0 r.0 refl) r_in in
        let late = ltb-false (line_of net w r) (count net net_is n w) parts.1 in
        let up = rises place (paths_of net w) empty_path (is.ranks w) (count net net_is n w) (line_of net w r) (omega arith) within in
        let same = ap place here in
        stuck m w (own_below net net_is w r ((in_paths_of net w r).0 r_in).1) (omega arith) (omega arith) where
          splits : (nodes : List ℕ) (v : ℕ) → begins_at nodes v ≡ true → nodes ≡ v ∷ drop 1 nodes
          splits [] v b = absurd (false≢true b)
          splits (x ∷ nodes) v b = ap (λ z. z ∷ nodes) (eqb-true x v b)

          starts : (nodes : List ℕ) → (nodes ≡ [] → ⊥) → begins_at nodes (first_node nodes) ≡ true
          starts [] some = absurd (some refl)
          starts (x ∷ nodes) some = eq-eqb x x refl

          numbered : (r : PathNo) → IsPath net r → (r.0 == 0) ≡ false → path net r ≡ [] → ⊥
          numbered r within some none = both_ways (r.0 == 0) some (eq-eqb r.0 0 (path_some net net_is r within none))

    all_there : are_placed net (counts_after net n) ≡ true
    all_there =
        all_from (λ v. count net net_is n v == length (paths_of net v)) routers (λ v i.
        let low = in_range v 0 net.nodes i in
        let most = count_few net net_is n v in
        elim (cases_lt (count net net_is n v) (length (paths_of net v))) [
          | inl short ↦ absurd (stuck (suc (place (next_path v))) v (omega arith) short (omega arith))
          | inr whole ↦ eq-eqb (count net net_is n v) (length (paths_of net v)) (omega arith)
        ])

  -- where there is such a list, it is found
  pub list_found : (place : PathNo → ℕ) → IsOneList net (opening net) place → has_one_list net ≡ true
  list_found place is =
      let few = paths_few net in
      let halt = halt_from (length (paths net)) 0 (omega arith) in
      let soon = halt.1 in
      sym (halts_with net halt.0 (omega arith) halt.2) ∙ all_there place is halt.0 halt.2
