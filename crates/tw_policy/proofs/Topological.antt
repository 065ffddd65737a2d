-- Where there is no dispute wheel, all paths stand in one list.
use Rattle.std.proofs.Common.{◌≡◌, ℕ, suc, zero, ◌+◌, ◌<◌, ◌≤◌, ◌==◌, Bool, true, false, ◌&&◌, ◌||◌, List, [], ◌∷◌, ◌++◌, length, map, Some, refl, ap, sym, ◌∙◌, subst, ◌⊎◌, inl, inr, arith, if◌then◌else◌, append_assoc}
use Rattle.std.specs.List.{find, list_any, range_with_len}
use Rattle.std.specs.Option.{unwrap_or}
use Rattle.std.proofs.lemmas.Bool.{cases_Bool, both_ways, and_from, and_parts, eqb-true, eq-eqb, false≢true, or_left, or_right}
use Rattle.tw_event.specs.declared.event.PathNo.{PathNo}
use Rattle.tw_model.specs.Net.{Net, begins_at, empty_path, is_own, path, paths, same_path}
use Rattle.tw_model.specs.State.{State}
use Rattle.tw_model.proofs.Paths.{own_is_path, same_path_is, same_path_self}
use Rattle.tw_sim.proofs.Members.{In, all_from_in, any_from_in, find_some, in_find, in_from_any, in_mapped, in_right, range_has}
use Rattle.tw_policy.specs.DisputeWheel.{IsDisputeWheel, Pivot, hop, is_among, is_no_worse}
use Rattle.tw_policy.specs.OneList.{Ascends, IsOneList}
use Rattle.tw_policy.specs.Search.{AreOnce}
use Rattle.tw_policy.proofs.DisputeWheel.{among_in}
use Rattle.tw_policy.proofs.Rim.{HasWheel, Next, goes_round}

-- ---- lists

any_more : {X : Type 0} (f g : X → Bool) (xs : List X) → ((x : X) → f x ≡ true → g x ≡ true) → list_any f xs ≡ true → list_any g xs ≡ true
any_more f g xs more h = let found = in_from_any f xs h in any_from_in g found.0 xs (more found.0 found.1) found.2

pub none_in : {X : Type 0} (f : X → Bool) (x : X) (xs : List X) → list_any f xs ≡ false → In x xs → f x ≡ false
none_in f x xs none i = grind (arith, cases_Bool, both_ways, any_from_in)

-- the paths of an order before this one
abbrev before : PathNo → List PathNo → List PathNo
before q [] = []
before q (x ∷ xs) = if q.0 == x.0 then [] else x ∷ before q xs

-- what stands before a path of an order in which none stands twice stands before it by this
in_before : (front : List PathNo) (x : PathNo) (rest : List PathNo) (q : PathNo) → AreOnce (front ++ x ∷ rest) → In q rest → In x (before q (front ++ x ∷ rest))
in_before [] x rest q once i = grind (arith, none_in, cases_Bool, both_ways, eq-eqb, eqb-true)
in_before (f ∷ front) x rest q once i =
    let apart = none_in (λ y. f.0 == y.0) q (front ++ x ∷ rest) once.0 (in_right q front (x ∷ rest) (inr i)) in
    elim (cases_Bool (q.0 == f.0)) [
      | inr b ↦ rw b (inr (in_before front x rest q once.1 i))
      | inl b ↦ absurd (both_ways (f.0 == q.0) apart (eq-eqb f.0 q.0 (sym (eqb-true q.0 f.0 b))))
    ]

-- the first that passes has none that passes before it
none_before : (test : PathNo → Bool) (order : List PathNo) (p : PathNo) → find test order ≡ Some p → list_any test (before p order) ≡ false
none_before test [] p found = refl
none_before test (x ∷ order) p found =
    elim (cases_Bool (test x)) [
      | inl b ↦ grind arith
      | inr b ↦ elim (cases_Bool (p.0 == x.0)) [
        | inl c ↦ rw c refl
        | inr c ↦ rw (c, b) (none_before test order p (rw b at found))
      ]
    ]

among : (q : PathNo) (xs : List PathNo) → In q xs → is_among q xs ≡ true
among q xs i = any_from_in (λ x. q.0 == x.0) q xs (eq-eqb q.0 q.0 refl) i

-- the first that passes is no worse than each that does
first_no_worse : (test : PathNo → Bool) (order : List PathNo) (p s : PathNo) → find test order ≡ Some p → test s ≡ true → In s order → is_no_worse p s order ≡ true
first_no_worse test [] p s found passes i = absurd i
first_no_worse test (x ∷ order) p s found passes i =
    elim (cases_Bool (p.0 == x.0)) [
      | inl c ↦ rw c (among s (x ∷ order) i)
      | inr c ↦ rw c (elim (cases_Bool (test x)) [
        | inl b ↦ grind arith
        | inr b ↦ elim i [
          | inl e ↦ absurd (both_ways (test x) b (subst (λ z. test z ≡ true) e passes))
          | inr k ↦ first_no_worse test order p s (rw b at found) passes k
        ]
      ])
    ]

-- how many pass
abbrev count : (PathNo → Bool) → List PathNo → ℕ
count test [] = 0
count test (x ∷ xs) = (if test x then 1 else 0) + count test xs

fewer_or_same : (less more : PathNo → Bool) → ((x : PathNo) → less x ≡ true → more x ≡ true) → (xs : List PathNo)
    → (count less xs < count more xs) ⊎ ((count less xs ≤ count more xs) × ((x : PathNo) → In x xs → more x ≡ true → less x ≡ true))
fewer_or_same less more too [] = inr (omega arith, λ x i. absurd i)
fewer_or_same less more too (x ∷ xs) = grind (arith, cases_Bool, both_ways, fewer_or_same less more too xs)

-- ---- paths that can't be placed yet

-- the first node of a path
abbrev first_node : List ℕ → ℕ
first_node [] = 0
first_node (v ∷ p) = v

begins_first : (p : List ℕ) (v : ℕ) → begins_at p v ≡ true → first_node p ≡ v
begins_first [] v h = absurd (false≢true h)
begins_first (x ∷ p) v h = eqb-true x v h

module _ (net : Net) (states : ℕ → State) (own : (v : ℕ) (q : PathNo) → In q (states v).order → is_own net v q ≡ true) (once : (v : ℕ) → AreOnce (states v).order) where
  -- the router at which a path begins, and its order
  abbrev owner : PathNo → ℕ
  owner q = first_node (path net q)

  abbrev ranks : PathNo → List PathNo
  ranks q = (states (owner q)).order

  owner_is : (v : ℕ) (q : PathNo) → In q (states v).order → owner q ≡ v
  owner_is v q i = begins_first (path net q) v (own v q i)

  abbrev is_ranked : PathNo → Bool
  is_ranked q = is_among q (ranks q)

  ranked_at : (v : ℕ) (q : PathNo) → In q (states v).order → is_ranked q ≡ true
  ranked_at v q i = among q (ranks q) (subst (λ r. In q (states r).order) (sym (owner_is v q i)) i)

  -- all paths of the net by their numbers
  abbrev all_numbers : List PathNo
  all_numbers = map (λ k. let q : PathNo = record { 0 = k } in q) (range_with_len 0 (length (paths net)))

  in_all : (v : ℕ) (q : PathNo) → In q (states v).order → In q all_numbers
  in_all v q i =
      in_mapped (λ k. let q : PathNo = record { 0 = k } in q) q.0 (range_with_len 0 (length (paths net)))
      (let here = (own_is_path net v q (own v q i)).0 in range_has q.0 0 (length (paths net)) (omega arith) (omega arith))

  -- whether the path goes on with r, which is ranked
  abbrev goes_with : PathNo → PathNo → Bool
  goes_with q r = is_ranked r && same_path (path net q) (owner q ∷ path net r)

  -- whether after so many rounds a path still waits for a better one of its router, or for the one that it goes on with
  abbrev waits : ℕ → PathNo → Bool
  waits zero q = true
  waits (suc k) q = list_any (waits k) (before q (ranks q)) || list_any (λ r. goes_with q r && waits k r) all_numbers

  waits_before : (k : ℕ) (q : PathNo) → waits (suc k) q ≡ true → waits k q ≡ true
  waits_before zero q h = refl
  waits_before (suc k) q h =
      elim (cases_Bool (list_any (waits (suc k)) (before q (ranks q)))) [
        | inl b ↦ or_left (list_any (waits k) (before q (ranks q))) (list_any (λ r. goes_with q r && waits k r) all_numbers)
            (any_more (waits (suc k)) (waits k) (before q (ranks q)) (waits_before k) b)
        | inr b ↦ or_right (list_any (waits k) (before q (ranks q))) (list_any (λ r. goes_with q r && waits k r) all_numbers)
            (any_more (λ r. goes_with q r && waits (suc k) r) (λ r. goes_with q r && waits k r) all_numbers
            (λ r m. let parts = and_parts (goes_with q r) (waits (suc k) r) m in and_from (goes_with q r) (waits k r) parts.0 (waits_before k r parts.1))
            (rw b at h))
      ]

  -- what waits after so many rounds waits for ever
  abbrev IsStuckAt : ℕ → Type 0
  IsStuckAt n = (q : PathNo) → In q all_numbers → waits n q ≡ true → waits (suc n) q ≡ true

  stuck_from : (k n : ℕ) → count (waits n) all_numbers ≤ k → (m : ℕ) × IsStuckAt m
  stuck_from zero n few =
      elim (fewer_or_same (waits (suc n)) (waits n) (waits_before n) all_numbers) [ inl less ↦ absurd (omega arith) | inr same ↦ (n, same.1) ]
  stuck_from (suc k) n few =
      elim (fewer_or_same (waits (suc n)) (waits n) (waits_before n) all_numbers) [
        | inr same ↦ (n, same.1)
        | inl less ↦ stuck_from k (suc n) (omega arith)
      ]

  -- ---- a path that waits for ever leads round a wheel

  module _ (n : ℕ) (stuck : IsStuckAt n) where
    -- the best path of a router that waits
    abbrev rim : ℕ → PathNo
    rim v = unwrap_or (find (waits n) (states v).order) empty_path

    record IsWaiting (v : ℕ) (s : PathNo) : Type 0 where
      pub there : In s (states v).order
      pub waiting : waits n s ≡ true

    rim_found : (v : ℕ) (s : PathNo) → IsWaiting v s → find (waits n) (states v).order ≡ Some (rim v)
    rim_found v s is =
        let found = find_some (waits n) (states v).order (any_from_in (waits n) s (states v).order is.waiting is.there) in
        found.1 ∙ ap Some (sym (ap (λ o. unwrap_or o empty_path) found.1))

    next : (v : ℕ) (s : PathNo) → IsWaiting v s → Next net states (map owner all_numbers) rim IsWaiting v
    next v s is =
        let p = rim v in
        let found = rim_found v s is in
        let met = in_find (waits n) p (states v).order found in
        let home : owner p ≡ v = owner_is v p met.1 in
        let still : waits (suc n) p ≡ true = stuck p (in_all v p met.1) met.0 in
        let first : list_any (waits n) (before p (ranks p)) ≡ false
        = subst (λ r. list_any (waits n) (before p (states r).order) ≡ false) (sym home) (none_before (waits n) (states v).order p found) in
        let on = in_from_any (λ r. goes_with p r && waits n r) all_numbers (rw first at still) in
        let r = on.0 in
        let parts = and_parts (goes_with p r) (waits n r) on.1 in
        let goes = and_parts (is_ranked r) (same_path (path net p) (owner p ∷ path net r)) parts.0 in
        let nodes : path net p ≡ v ∷ path net r
        = subst (λ w. path net p ≡ w ∷ path net r) home (same_path_is (path net p) (owner p ∷ path net r) goes.1) in
        record {
          router = owner r;
          spoke = r;
          is = record { there = among_in r (ranks r) goes.0; waiting = parts.1 };
          leads = hop v p r (among p (states v).order met.1) nodes;
        }

    wheel : (v : ℕ) (s : PathNo) → IsWaiting v s → HasWheel net states
    wheel v s is =
        goes_round net states (map owner all_numbers) rim IsWaiting (record {
          within = λ w q waiting. subst (λ r. In r (map owner all_numbers)) (owner_is w q waiting.there) (in_mapped owner q all_numbers (in_all w q waiting.there));
          ranked = λ w q waiting. first_no_worse (waits n) (states w).order (rim w) q (rim_found w q waiting) waiting.waiting waiting.there;
          next = next;
        }) v s is

  -- ---- where none waits for ever, the rounds that a path waited are its place

  module _ (n : ℕ) (free : (v : ℕ) (q : PathNo) → In q (states v).order → waits n q ≡ false) where
    -- how many of so many rounds the path waited
    abbrev waited : ℕ → PathNo → ℕ
    waited zero q = 0
    waited (suc k) q = waited k q + (if waits k q then 1 else 0)

    abbrev pub place_of : PathNo → ℕ
    place_of q = if is_ranked q then waited (suc n) q else 0

    waited_few : (k : ℕ) (q : PathNo) → waited k q ≤ k
    waited_few zero q = omega arith
    waited_few (suc k) q = grind (arith, cases_Bool, waited_few k q)

    waited_longer : (p q : PathNo) → ((k : ℕ) → waits k p ≡ true → waits (suc k) q ≡ true) → (k : ℕ) → 1 + waited k p ≤ waited (suc k) q
    waited_longer p q holds zero = omega arith
    waited_longer p q holds (suc k) = grind (arith, cases_Bool, waited_longer p q holds k)

    -- a path that another one waits for is placed before it
    placed : (v w : ℕ) (p q : PathNo) → In p (states v).order → In q (states w).order → ((k : ℕ) → waits k p ≡ true → waits (suc k) q ≡ true) → place_of p < place_of q
    placed v w p q i j holds = grind (arith, waited_longer, ranked_at)

    place_positive : (w : ℕ) (q : PathNo) → In q (states w).order → 0 < place_of q
    place_positive w q j = rw (ranked_at w q j) (positive n) where
      positive : (k : ℕ) → 0 < waited (suc k) q
      positive zero = omega arith
      positive (suc k) = let more = positive k in omega arith

    ascends : (v : ℕ) (front order : List PathNo) → front ++ order ≡ (states v).order → Ascends place_of order
    ascends v front [] whole = tt
    ascends v front (x ∷ order) whole = (
      all_from_in (λ q. place_of x < place_of q) order (λ q i.
          let x_there : In x (states v).order = subst (In x) whole (in_right x front (x ∷ order) (inl refl)) in
          let q_there : In q (states v).order = subst (In q) whole (in_right q front (x ∷ order) (inr i)) in
          let first : In x (before q (states v).order)
          = subst (λ xs. In x (before q xs)) whole (in_before front x order q (subst AreOnce (sym whole) (once v)) i) in
          let home : In x (before q (ranks q)) = subst (λ r. In x (before q (states r).order)) (sym (owner_is v q q_there)) first in
          placed v v x q x_there q_there (λ k waiting.
          or_left (list_any (waits k) (before q (ranks q))) (list_any (λ r. goes_with q r && waits k r) all_numbers) (any_from_in (waits k) x (before q (ranks q)) waiting home))),
      ascends v (front ++ x ∷ []) order (append_assoc front (x ∷ []) order ∙ whole),
    )

    goes_on : (v : ℕ) (q : PathNo) → In q (states v).order → (r : PathNo) → path net q ≡ v ∷ path net r → place_of r < place_of q
    goes_on v q i r nodes =
        elim (cases_Bool (is_ranked r)) [
          | inr b ↦ grind (arith, place_positive)
          | inl b ↦ (
              let there = among_in r (ranks r) b in
              let with_it : goes_with q r ≡ true
              = and_from (is_ranked r) (same_path (path net q) (owner q ∷ path net r)) b
              (subst (λ p. same_path (path net q) p ≡ true) (nodes ∙ ap (λ w. w ∷ path net r) (sym (owner_is v q i))) (same_path_self (path net q))) in
              placed (owner r) v r q there i (λ k waiting.
              or_right (list_any (waits k) (before q (ranks q))) (list_any (λ x. goes_with q x && waits k x) all_numbers)
              (any_from_in (λ x. goes_with q x && waits k x) r all_numbers (and_from (goes_with q r) (waits k r) with_it waiting) (in_all (owner r) r there))))
        ]

    listed : IsOneList net states place_of
    listed = record {
      ranks = λ v. ascends v [] (states v).order refl;
      goes_on = λ v. all_from_in (λ q. (r : PathNo) → path net q ≡ v ∷ path net r → place_of r < place_of q) (states v).order (goes_on v);
    }

    place_few : (q : PathNo) → place_of q < suc (suc n)
    place_few q = grind (arith, waited_few, cases_Bool)

  -- without a dispute wheel all paths stand in one list
  pub one_list : ((one : Pivot) (others : List Pivot) → IsDisputeWheel net states one others → ⊥)
      → (place : PathNo → ℕ) × (n : ℕ) × IsOneList net states place × ((q : PathNo) → place q < n)
  one_list no_wheel =
      let halt = stuck_from (count (waits 0) all_numbers) 0 (omega arith) in
      let n = halt.0 in
      let free = λ (v : ℕ) (q : PathNo) (i : In q (states v).order). never n halt.1 v q i in
      (place_of n free, suc (suc n), listed n free, place_few n free) where
        never : (n : ℕ) → IsStuckAt n → (v : ℕ) (q : PathNo) → In q (states v).order → waits n q ≡ false
        never n stuck v q i =
            elim (cases_Bool (waits n q)) [
              | inr b ↦ b
              | inl b ↦ (let found = wheel n stuck v q (record { there = i; waiting = b }) in absurd (no_wheel found.one found.others found.is))
            ]
