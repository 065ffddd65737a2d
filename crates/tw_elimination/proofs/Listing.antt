-- Where each router has put all of its paths into the list, they stand in one list.
use Rattle.std.proofs.Common.{◌≡◌, ℕ, suc, zero, ◌+◌, ◌-◌, ◌<◌, ◌≤◌, ◌==◌, Bool, true, false, not, ◌&&◌, ◌||◌, List, [], ◌∷◌, ◌++◌, append_assoc, drop, get_or, length, map, refl, ap, ap₂, sym, ◌∙◌, subst, ◌⊎◌, inl, inr, arith, nat_lt, if◌then◌else◌}
use Rattle.std.specs.List.{list_all, position_or_len, range_with_len}
use Rattle.std.proofs.lemmas.Bool.{cases_Bool, cases_eq, cases_lt, and_parts, both_ways, eq-eqb, eqb-true, false≢true, le-ltb, lt-ltb, ltb-true, not-false, or_parts}
use Rattle.std.proofs.lemmas.List.{get_or_past, length-map}
use Rattle.std.proofs.lemmas.List.FromFn.{get_or-map-range_with_len, length-map-range_with_len, map-range_with_len_more}
use Rattle.tw_event.specs.declared.event.PathNo.{PathNo}
use Rattle.tw_model.specs.declared.net.Link.{Link}
use Rattle.tw_model.specs.declared.rule.Rule.TheVariants.{PathOwner, Range}
use Rattle.tw_model.specs.Net.{IsPath, Net, begins_at, empty_path, is_own, path, paths, paths_of}
use Rattle.tw_model.specs.PermittedPath.{PermittedPath}
use Rattle.tw_model.specs.Rules.{IsNet, PathsFollow, path_breaks}
use Rattle.tw_model.specs.State.{line_of, opening}
use Rattle.tw_model.proofs.Nets.{nodes_within}
use Rattle.tw_model.proofs.Paths.{in_paths_of, path_some, paths_of-distinct}
use Rattle.tw_model.proofs.Unbroken.{none_broken}
use Rattle.tw_sim.proofs.Members.{In, all_from_in, in_right, place_within, range_has}
use Rattle.tw_policy.specs.OneList.{Ascends, IsOneList}
use Rattle.tw_policy.specs.Safe.{IsRobust}
use Rattle.tw_policy.specs.Search.{AreOnce}
use Rattle.tw_policy.proofs.Cases.{once_of}
use Rattle.tw_policy.proofs.DisputeWheel.{no_wheel}
use Rattle.tw_policy.proofs.Lists.{same_number}
use Rattle.tw_policy.proofs.Safe.{no_wheel_robust}
use Rattle.tw_policy.proofs.Topological.{none_in}
use Rattle.tw_elimination.specs.Placing.{are_placed, count_of, counts_after, has_one_list, is_placed, may_follow, next_count}
use Rattle.tw_elimination.specs.Wheel.{first_node, number_of}
use Rattle.tw_elimination.proofs.Bounds.{all_at}
use Rattle.tw_elimination.proofs.Ring.{begins, one_more}
use Rattle.tw_elimination.proofs.PathNumbers.{number_is}

-- ---- a path begins at a router

owner_below : (nodes : ℕ) (links : List Link) (before paths : List PermittedPath) (k v : ℕ)
    → PathsFollow (record { nodes = nodes; links = links; permitted = before }) paths → begins_at (get_or (map (λ l. l.nodes) paths) k []) v ≡ true → v < nodes
owner_below nodes links before [] k v h b = absurd (false≢true b)
owner_below nodes links before (p ∷ paths) zero v h b =
    let net : Net = record { nodes = nodes; links = links; permitted = before } in
    let range : not (nat_lt p.owner nodes && list_all (λ x. nat_lt x nodes) p.nodes) ≡ false = none_broken (path_breaks net p) h.0 Range in
    let owned : (p.owner == 0 || not (begins_at p.nodes p.owner)) ≡ false = none_broken (path_breaks net p) h.0 PathOwner in
    let below = ltb-true p.owner nodes (and_parts (nat_lt p.owner nodes) (list_all (λ x. nat_lt x nodes) p.nodes)
    (not-false (nat_lt p.owner nodes && list_all (λ x. nat_lt x nodes) p.nodes) range)).0 in
    let owner = begins p.nodes p.owner (not-false (begins_at p.nodes p.owner) (or_parts (p.owner == 0) (not (begins_at p.nodes p.owner)) owned).1) in
    let here = begins p.nodes v b in
    omega arith
owner_below nodes links before (p ∷ paths) (suc k) v h b = owner_below nodes links (before ++ p ∷ []) paths k v h.1 b

pub own_below : (net : Net) → IsNet net → (v : ℕ) (q : PathNo) → is_own net v q ≡ true → v < net.nodes
unfolding path
own_below net is v q h = at q.0 h where
  at : (k : ℕ) → begins_at (get_or (paths net) k []) v ≡ true → v < net.nodes
  at zero b = absurd (false≢true b)
  at (suc zero) b =
      let origin = eqb-true 0 v b in
      let some = (nodes_within net.nodes is.nodes).0 in
      omega arith
  at (suc (suc k)) b = owner_below net.nodes net.links [] net.permitted k v is.permitted b

no_nodes : (net : Net) (q : PathNo) → q.0 ≡ 0 → path net q ≡ []
unfolding path
no_nodes net q e = ap (λ k. get_or (paths net) k []) e

-- ---- places in a list in which none stands twice

pub at_place : (q : PathNo) (xs : List PathNo) (d : PathNo) → In q xs → get_or xs (position_or_len (λ p. p.0 == q.0) xs) d ≡ q
at_place q (x ∷ xs) d i =
    elim (cases_Bool (x.0 == q.0)) [
      | inl b ↦ rw b (same_number x q (eqb-true x.0 q.0 b))
      | inr b ↦ elim i [
        | inl e ↦ absurd (both_ways (x.0 == q.0) b (eq-eqb x.0 q.0 (ap (λ z. z.0) (sym e))))
        | inr k ↦ rw b (ap (λ n. get_or (x ∷ xs) n d) (one_more (position_or_len (λ p. p.0 == q.0) xs)) ∙ at_place q xs d k)
      ]
    ]
at_place q [] d i = absurd i

placed_before : (front : List PathNo) (x : PathNo) (rest : List PathNo) (q : PathNo) → AreOnce (front ++ x ∷ rest) → In q rest
    → position_or_len (λ p. p.0 == x.0) (front ++ x ∷ rest) < position_or_len (λ p. p.0 == q.0) (front ++ x ∷ rest)
placed_before [] x rest q once i = rw (eq-eqb x.0 x.0 refl, none_in (λ y. x.0 == y.0) q rest once.0 i) (omega arith)
placed_before (f ∷ front) x rest q once i =
    let one = none_in (λ y. f.0 == y.0) x (front ++ x ∷ rest) once.0 (in_right x front (x ∷ rest) (inl refl)) in
    let two = none_in (λ y. f.0 == y.0) q (front ++ x ∷ rest) once.0 (in_right q front (x ∷ rest) (inr i)) in
    let more = placed_before front x rest q once.1 i in
    rw (one, two) (omega arith)

-- ---- how often something waited

abbrev waited : (ℕ → Bool) → ℕ → ℕ
waited waits zero = 0
waited waits (suc k) = waited waits k + (if waits k then 1 else 0)

-- what waits for something waits longer
longer : (one two : ℕ → Bool) → two 0 ≡ true → ((k : ℕ) → one k ≡ true → two (suc k) ≡ true) → (k : ℕ) → 1 + waited one k ≤ waited two (suc k)
longer one two first holds zero = rw first (omega arith)
longer one two first holds (suc k) =
    let more = longer one two first holds k in
    elim (cases_Bool (one k)) [
      | inl b ↦ (let too = holds k b in rw (b, too) (omega arith))
      | inr b ↦ elim (cases_Bool (two (suc k))) [ inl c ↦ rw (b, c) (omega arith) | inr c ↦ rw (b, c) (omega arith) ]
    ]

waited_few : (waits : ℕ → Bool) (k : ℕ) → waited waits k ≤ k
waited_few waits zero = omega arith
waited_few waits (suc k) =
    let more = waited_few waits k in
    elim (cases_Bool (waits k)) [ inl b ↦ rw b (omega arith) | inr b ↦ rw b (omega arith) ]

waited_some : (waits : ℕ → Bool) → waits 0 ≡ true → (k : ℕ) → 0 < waited waits (suc k)
waited_some waits first zero = rw first (omega arith)
waited_some waits first (suc k) = let more = waited_some waits first k in omega arith

module _ (net : Net) (net_is : IsNet net) where
  abbrev pub count : ℕ → ℕ → ℕ
  count n v = count_of net (counts_after net n) v

  pub count_past : (n v : ℕ) → net.nodes ≤ v → count n v ≡ 0
  count_past zero v high = let long : length (counts_after net zero) ≡ net.nodes = length-map-range_with_len (λ (w : ℕ). 0) 0 net.nodes in get_or_past (counts_after net zero) v 0 (omega arith)
  count_past (suc n) v high =
      let long : length (counts_after net (suc n)) ≡ net.nodes = length-map-range_with_len (next_count net (counts_after net n)) 0 net.nodes in
      get_or_past (counts_after net (suc n)) v 0 (omega arith)

  pub count_first : (v : ℕ) → count 0 v ≡ 0
  count_first v =
      elim (cases_lt v net.nodes) [
        | inl low ↦ get_or-map-range_with_len (λ w. 0) 0 net.nodes v v 0 low (omega arith)
        | inr high ↦ count_past 0 v high
      ]

  -- in a round a router puts one path at most
  pub step : (n v : ℕ) → (count (suc n) v ≡ count n v)
      ⊎ ((count (suc n) v ≡ count n v + 1) × (count n v < length (paths_of net v)) × (may_follow net (counts_after net n) (get_or (paths_of net v) (count n v) empty_path) ≡ true))
  step n v =
      elim (cases_lt v net.nodes) [
        | inr high ↦ inl (count_past (suc n) v high ∙ sym (count_past n v high))
        | inl low ↦ (
            let next : count (suc n) v ≡ next_count net (counts_after net n) v = get_or-map-range_with_len (next_count net (counts_after net n)) 0 net.nodes v v 0 low (omega arith) in
            let may = may_follow net (counts_after net n) (get_or (paths_of net v) (count n v) empty_path) in
            elim (cases_Bool (nat_lt (count n v) (length (paths_of net v)) && may)) [
              | inl b ↦ (
                  let parts = and_parts (nat_lt (count n v) (length (paths_of net v))) may b in
                  inr (next ∙ ap (λ c. if c then count n v + 1 else count n v) b, ltb-true (count n v) (length (paths_of net v)) parts.0, parts.1))
              | inr b ↦ inl (next ∙ ap (λ c. if c then count n v + 1 else count n v) b)
            ])
      ]

  pub grows : (n v : ℕ) → (count n v ≤ count (suc n) v) × (count (suc n) v ≤ count n v + 1)
  grows n v = elim (step n v) [ inl same ↦ (omega arith, omega arith) | inr more ↦ (let one = more.0 in (omega arith, omega arith)) ]

  -- and no more than it has
  pub count_few : (n v : ℕ) → count n v ≤ length (paths_of net v)
  count_few zero v = let none = count_first v in omega arith
  count_few (suc n) v =
      let few = count_few n v in
      elim (step n v) [ inl same ↦ omega arith | inr more ↦ (let one = more.0 in let low = more.1 in omega arith) ]

  -- ---- which paths stand in the list

  abbrev owner : PathNo → ℕ
  owner q = first_node (path net q)

  abbrev place_in : PathNo → ℕ
  place_in q = line_of net (owner q) q

  abbrev stands : ℕ → PathNo → Bool
  stands n q = nat_lt (place_in q) (count n (owner q))

  abbrev waits : PathNo → ℕ → Bool
  waits q n = not (stands n q)

  waits_first : (q : PathNo) → waits q 0 ≡ true
  waits_first q = let none = count_first (owner q) in ap not (le-ltb (place_in q) (count 0 (owner q)) (omega arith))

  stands_more : (n : ℕ) (q : PathNo) → stands n q ≡ true → stands (suc n) q ≡ true
  stands_more n q h =
      let low = ltb-true (place_in q) (count n (owner q)) h in
      let more = (grows n (owner q)).0 in
      lt-ltb (place_in q) (count (suc n) (owner q)) (omega arith)

  -- what stands only where another one stood before waits for it
  waits_for : (r q : PathNo) → ((n : ℕ) → stands (suc n) q ≡ true → stands n r ≡ true) → (n : ℕ) → waits r n ≡ true → waits q (suc n) ≡ true
  waits_for r q needs n h =
      elim (cases_Bool (stands (suc n) q)) [
        | inr b ↦ ap not b
        | inl b ↦ absurd (both_ways (waits r n) (ap not (needs n b)) h)
      ]

  -- a better one of its router
  needs_better : (v : ℕ) (x q : PathNo) → owner x ≡ v → owner q ≡ v → place_in x < place_in q → (n : ℕ) → stands (suc n) q ≡ true → stands n x ≡ true
  needs_better v x q one two before n h =
      let low = ltb-true (place_in q) (count (suc n) (owner q)) h in
      let more = (grows n (owner q)).1 in
      let same : count n (owner x) ≡ count n (owner q) = ap (count n) (one ∙ sym two) in
      lt-ltb (place_in x) (count n (owner x)) (omega arith)

  -- a path that is put there now goes on with one that stands there
  put_now : (v : ℕ) (q r : PathNo) → In q (paths_of net v) → owner q ≡ v → path net q ≡ v ∷ path net r → IsPath net r → (r.0 == 0) ≡ false
      → (n : ℕ) → place_in q < count (suc n) (owner q) → count n (owner q) ≤ place_in q → stands n r ≡ true
  put_now v q r i own nodes within some n low last =
      elim (step n (owner q)) [
        | inl same ↦ absurd (omega arith)
        | inr more ↦ (
            let one = more.0 in
            let here : place_in q ≡ count n (owner q) = omega arith in
            let it : get_or (paths_of net (owner q)) (count n (owner q)) empty_path ≡ q
            = ap (λ k. get_or (paths_of net (owner q)) k empty_path) (sym here) ∙ at_place q (paths_of net (owner q)) empty_path (subst (λ w. In q (paths_of net w)) (sym own) i) in
            let rest : number_of net (drop 1 (path net q)) ≡ r = ap (λ ns. number_of net (drop 1 ns)) nodes ∙ number_is net net_is r within in
            let may : is_placed net (counts_after net n) r ≡ true
            = subst (λ z. is_placed net (counts_after net n) z ≡ true) rest (subst (λ z. may_follow net (counts_after net n) z ≡ true) it more.2) in
            rw some at may)
      ]

  -- the one that it goes on with
  needs_rest : (v : ℕ) (q r : PathNo) → In q (paths_of net v) → owner q ≡ v → path net q ≡ v ∷ path net r → IsPath net r → (r.0 == 0) ≡ false
      → (n : ℕ) → stands (suc n) q ≡ true → stands n r ≡ true
  needs_rest v q r i own nodes within some zero h =
      let none = count_first (owner q) in
      put_now v q r i own nodes within some zero (ltb-true (place_in q) (count 1 (owner q)) h) (omega arith)
  needs_rest v q r i own nodes within some (suc m) h =
      elim (cases_lt (place_in q) (count (suc m) (owner q))) [
        | inl before ↦ stands_more m r (needs_rest v q r i own nodes within some m (lt-ltb (place_in q) (count (suc m) (owner q)) before))
        | inr last ↦ put_now v q r i own nodes within some (suc m) (ltb-true (place_in q) (count (suc (suc m)) (owner q)) h) last
      ]

  -- ---- where all stand, the rounds that a path waited are its place

  module _ (n : ℕ) (all : are_placed net (counts_after net n) ≡ true) where
    abbrev is_ranked : PathNo → Bool
    is_ranked q = nat_lt 0 q.0 && nat_lt q.0 (length (paths net))

    abbrev pub place_of : PathNo → ℕ
    place_of q = if is_ranked q then waited (waits q) (suc n) else 0

    owner_is : (v : ℕ) (q : PathNo) → In q (paths_of net v) → owner q ≡ v
    owner_is v q i = begins (path net q) v ((in_paths_of net v q).0 i).1

    free : (v : ℕ) (q : PathNo) → In q (paths_of net v) → waits q n ≡ false
    free v q i =
        let low = own_below net net_is v q ((in_paths_of net v q).0 i).1 in
        let whole = eqb-true (count n v) (length (paths_of net v))
        (all_at (λ w. count n w == length (paths_of net w)) (range_with_len 0 net.nodes) all v (range_has v 0 net.nodes (omega arith) (omega arith))) in
        let within : line_of net v q < length (paths_of net v) = place_within (λ p. p.0 == q.0) q (paths_of net v) (eq-eqb q.0 q.0 refl) i in
        let stand : nat_lt (line_of net v q) (count n v) ≡ true = lt-ltb (line_of net v q) (count n v) (omega arith) in
        ap not (ap (λ w. nat_lt (line_of net w q) (count n w)) (owner_is v q i) ∙ stand)

    ranked_at : (v : ℕ) (q : PathNo) → In q (paths_of net v) → is_ranked q ≡ true
    ranked_at v q i =
        let is = (in_paths_of net v q).0 i in
        let some : 0 < q.0 = (elim (cases_eq q.0 0) [
          | inr d ↦ omega arith
          | inl e ↦ absurd (false≢true (sym (ap (λ ns. begins_at ns v) (no_nodes net q e)) ∙ is.1))
        ]) in
        rw (lt-ltb 0 q.0 some, lt-ltb q.0 (length (paths net)) is.0) refl

    placed : (v w : ℕ) (p q : PathNo) → In p (paths_of net v) → In q (paths_of net w) → ((k : ℕ) → waits p k ≡ true → waits q (suc k) ≡ true) → place_of p < place_of q
    placed v w p q i j holds =
        let more : 1 + waited (waits p) n ≤ waited (waits q) (suc n) = longer (waits p) (waits q) (waits_first q) holds n in
        let last : waited (waits p) (suc n) ≡ waited (waits p) n = rw (free v p i) (omega arith) in
        rw (ranked_at v p i, ranked_at w q j) (omega arith)

    ascends : (v : ℕ) (front order : List PathNo) → front ++ order ≡ paths_of net v → Ascends place_of order
    ascends v front [] whole = tt
    ascends v front (x ∷ order) whole = (
      all_from_in (λ q. place_of x < place_of q) order (λ q i.
          let x_there : In x (paths_of net v) = subst (In x) whole (in_right x front (x ∷ order) (inl refl)) in
          let q_there : In q (paths_of net v) = subst (In q) whole (in_right q front (x ∷ order) (inr i)) in
          let once = subst AreOnce (sym whole) (once_of (paths_of net v) (paths_of-distinct net v)) in
          let before : line_of net v x < line_of net v q
          = subst (λ xs. position_or_len (λ p. p.0 == x.0) xs < position_or_len (λ p. p.0 == q.0) xs) whole (placed_before front x order q once i) in
          let one = owner_is v x x_there in
          let two = owner_is v q q_there in
          let lines : place_in x < place_in q = subst (λ w. line_of net w x < place_in q) (sym one) (subst (λ w. line_of net v x < line_of net w q) (sym two) before) in
          placed v v x q x_there q_there (waits_for x q (needs_better v x q one two lines))),
      ascends v (front ++ x ∷ []) order (append_assoc front (x ∷ []) order ∙ whole),
    )

    goes_on : (v : ℕ) (q : PathNo) → In q (paths_of net v) → (r : PathNo) → path net q ≡ v ∷ path net r → place_of r < place_of q
    goes_on v q i r nodes =
        elim (cases_Bool (is_ranked r)) [
          | inr b ↦ (
              let none : place_of r ≡ 0 = rw b refl in
              let some : 0 < place_of q = rw (ranked_at v q i) (waited_some (waits q) (waits_first q) n) in
              omega arith)
          | inl b ↦ (
              let parts = and_parts (nat_lt 0 r.0) (nat_lt r.0 (length (paths net))) b in
              let some = ltb-true 0 r.0 parts.0 in
              let within : IsPath net r = ltb-true r.0 (length (paths net)) parts.1 in
              let other : (r.0 == 0) ≡ false = (elim (cases_Bool (r.0 == 0)) [ inr c ↦ c | inl c ↦ (let zero_is = eqb-true r.0 0 c in absurd (omega arith)) ]) in
              let there : In r (paths_of net (owner r)) = (in_paths_of net (owner r) r).1 (within, first (path net r) (λ e. let none = path_some net net_is r within e in omega arith)) in
              placed (owner r) v r q there i (waits_for r q (needs_rest v q r i (owner_is v q i) nodes within other)))
        ] where
          first : (nodes : List ℕ) → (nodes ≡ [] → ⊥) → begins_at nodes (first_node nodes) ≡ true
          first [] some = absurd (some refl)
          first (x ∷ nodes) some = eq-eqb x x refl

    pub listed : IsOneList net (opening net) place_of
    listed = record {
      ranks = λ v. ascends v [] (paths_of net v) refl;
      goes_on = λ v. all_from_in (λ q. (r : PathNo) → path net q ≡ v ∷ path net r → place_of r < place_of q) (paths_of net v) (goes_on v);
    }

    pub place_few : (q : PathNo) → place_of q < suc (suc n)
    place_few q =
        let few = waited_few (waits q) (suc n) in
        elim (cases_Bool (is_ranked q)) [ inl b ↦ rw b (omega arith) | inr b ↦ rw b (omega arith) ]

-- all paths stand in one list
pub one_list : (net : Net) → IsNet net → has_one_list net ≡ true → (place : PathNo → ℕ) × (n : ℕ) × IsOneList net (opening net) place × ((q : PathNo) → place q < n)
unfolding has_one_list
one_list net is all = let n = length (paths net) in (place_of net is n all, suc (suc n), listed net is n all, place_few net is n all)

-- so the instance is robust
pub one_list_robust : (net : Net) → IsNet net → has_one_list net ≡ true → IsRobust net
one_list_robust net is all = let l = one_list net is all in no_wheel_robust net (no_wheel net (opening net) l.0 l.2)

-- ---- rounds that change nothing

pub stays : (net : Net) (n : ℕ) → counts_after net (suc n) ≡ counts_after net n → (k : ℕ) → counts_after net (n + k) ≡ counts_after net n
stays net n same zero = ap (counts_after net) (none_more n) where
  none_more : (n : ℕ) → n + 0 ≡ n
  none_more n = omega arith
stays net n same (suc k) =
    ap (counts_after net) (sum_suc n k)
    ∙ (ap (λ placed. map (next_count net placed) (range_with_len 0 net.nodes)) (stays net n same k) ∙ same) where
      sum_suc : (n k : ℕ) → n + suc k ≡ suc (n + k)
      sum_suc n k = omega arith

-- what stands there after a round that changes nothing stands there after all rounds
pub halts_with : (net : Net) (n : ℕ) → n ≤ length (paths net) → counts_after net (suc n) ≡ counts_after net n → are_placed net (counts_after net n) ≡ has_one_list net
unfolding has_one_list
halts_with net n low same =
    ap (are_placed net) (sym (ap (counts_after net) (sums (length (paths net)) n low) ∙ stays net n same (length (paths net) - n))) where
      sums : (m n : ℕ) → n ≤ m → m ≡ n + (m - n)
      sums m n low = omega arith

-- how many paths there are
pub paths_long : (net : Net) → length (paths net) ≡ length net.permitted + 2
paths_long net = let same = length-map net.permitted (λ l. l.nodes) in omega arith

pub all_rounds : (net : Net) (n : ℕ) → n ≡ length (paths net) → are_placed net (counts_after net n) ≡ has_one_list net
unfolding has_one_list
all_rounds net n is = ap (λ k. are_placed net (counts_after net k)) is

-- ---- a list router by router

pub range_more : {X : Type 0} (f : ℕ → X) (k : ℕ) (old new : List X) (x : X) → new ≡ old ++ x ∷ [] → old ≡ map f (range_with_len 0 k) → x ≡ f k → new ≡ map f (range_with_len 0 (k + 1))
range_more f k old new x pushed before is = pushed ∙ (ap₂ (λ xs y. xs ++ y ∷ []) before is ∙ sym (map-range_with_len_more f 0 k k (omega arith)))
