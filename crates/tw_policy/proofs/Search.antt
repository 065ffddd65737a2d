-- What a search finds is stable, what is stable it finds, and it finds nothing twice.
use Rattle.std.proofs.Common.{◌≡◌, ℕ, suc, zero, ◌<◌, ◌==◌, Bool, true, false, ◌&&◌, List, [], ◌∷◌, ◌++◌, length, filter, get_or, Option, Some, None, refl, ap, sym, ◌∙◌, subst, inl, inr, arith, nat_lt, if◌then◌else◌}
use Rattle.std.specs.List.{find, list_all, list_any, range_with_len}
use Rattle.std.proofs.lemmas.Bool.{cases_Bool, both_ways, and_parts, and_from, eqb-true, eq-eqb, false≢true, ltb-true, ltb-false, lt-ltb}
use Rattle.tw_event.specs.declared.event.PathNo.{PathNo}
use Rattle.tw_model.specs.Net.{Net, empty_path, origin_path}
use Rattle.tw_model.specs.State.{State}
use Rattle.tw_model.specs.Quiet.{is_reached, stable_path}
use Rattle.tw_sim.proofs.Members.{In, any_from_in, in_append, in_filter, in_filtered, in_find, in_get_or, in_left, in_range, in_right, place, range_has}
use Rattle.tw_policy.specs.Stable.{IsStableAssignment}
use Rattle.tw_policy.specs.Left.{remaining}
use Rattle.tw_policy.specs.Search.{AreOnce, Differ, all_paths, each, first_of, has_any, has_choice, is_one_of, is_stable, joined, narrowed, only_at, search, settled, split}
use Rattle.tw_policy.proofs.Lists.{all_from, all_in, found_in, none_found, same_number}
use Rattle.tw_policy.proofs.Choices.{stable_agree}
use Rattle.tw_policy.proofs.Elimination.{everywhere, everywhere_is, stable_everywhere}
use Rattle.tw_policy.proofs.Left as left_lists

-- what two parts of a search found, where both are there
pub record AreParts (X : Type 0) (a b : Option (List X)) (xs : List X) : Type 0 where
  pub first : List X
  pub others : List X
  pub first_is : a ≡ Some first
  pub others_is : b ≡ Some others
  pub all : xs ≡ first ++ others

pub parts_of : {X : Type 0} (a b : Option (List X)) (xs : List X) → joined a b ≡ Some xs → AreParts X a b xs
parts_of (Some ys) (Some zs) xs h = record { first = ys; others = zs; first_is = refl; others_is = refl; all = cc }
parts_of (Some ys) None xs h = absurd (cc)
parts_of None b xs h = absurd (cc)

-- a list with one path at most is the path that stands there
pub alone : (xs : List PathNo) (q : PathNo) → nat_lt 1 (length xs) ≡ false → In q xs → get_or xs 0 empty_path ≡ q
alone (x ∷ []) q few (inl e) = sym e
alone (x ∷ []) q few (inr none) = absurd none
alone (x ∷ y ∷ xs) q few k = let short = ltb-false 1 (length (x ∷ y ∷ xs)) few in absurd (omega arith)
alone [] q few k = absurd k

pub some_there : (xs : List PathNo) (q : PathNo) → In q xs → nat_lt 0 (length xs) ≡ true
some_there (x ∷ xs) q k = lt-ltb 0 (length (x ∷ xs)) (omega arith)
some_there [] q k = absurd k

pub first_in : (xs : List PathNo) → nat_lt 0 (length xs) ≡ true → In (get_or xs 0 empty_path) xs
first_in (x ∷ xs) h = inl refl
first_in [] h = let short = ltb-true 0 0 h in absurd (omega arith)

pub in_one_of : (q : PathNo) (xs : List PathNo) → In q xs → is_one_of xs q ≡ true
in_one_of q xs k = any_from_in (λ x. q.0 == x.0) q xs (eq-eqb q.0 q.0 refl) k

module _ (net : Net) (states : ℕ → State) where
  abbrev routers : List ℕ
  routers = range_with_len 0 net.nodes

  -- ---- what is stable is found

  module _ (ribs : ℕ → PathNo) (stable : (v : ℕ) → ribs v ≡ stable_path net ribs v (states v)) where
    -- one of these gives each router the same path
    abbrev pub IsFound : List (ℕ → PathNo) → Type 0
    IsFound xs = (x : ℕ → PathNo) × In x xs × ((v : ℕ) → v < net.nodes → x v ≡ ribs v)

    within_narrowed : (left : ℕ → List PathNo) → ((w : ℕ) → In (ribs w) (left w)) → (w : ℕ) → In (ribs w) (narrowed net states left w)
    within_narrowed left within w =
        in_filtered (is_one_of (if w == 0 then origin_path ∷ [] else remaining net states left w [] (states w).order)) (ribs w) (left w)
        (in_one_of (ribs w) (if w == 0 then origin_path ∷ [] else remaining net states left w [] (states w).order) there) (within w) where
          there : In (ribs w) (if w == 0 then origin_path ∷ [] else remaining net states left w [] (states w).order)
          there =
              elim (cases_Bool (w == 0)) [
                | inl b ↦ rw b (inl (stable w ∙ rw b refl))
                | inr b ↦ rw b (subst (λ z. In z (remaining net states left w [] (states w).order)) (sym (stable w)) (left_lists.stable_remains net states left ribs within w b))
              ]

    within_only : (left : ℕ → List PathNo) (v : ℕ) → ((w : ℕ) → In (ribs w) (left w)) → (w : ℕ) → In (ribs w) (only_at left v (ribs v) w)
    within_only left v within w = grind arith

    found_settled : (left : ℕ → List PathNo) → ((w : ℕ) → In (ribs w) (left w)) → find (has_choice left) routers ≡ None → IsFound (settled net states left)
    found_settled left within none =
        let same = λ (v : ℕ) (here : v < net.nodes). alone (left v) (ribs v) (none_found (has_choice left) v routers none (range_has v 0 net.nodes (omega arith) (omega arith))) (within v) in
        let any : list_all (has_any left) routers ≡ true = all_from (has_any left) routers (λ v i. some_there (left v) (ribs v) (within v)) in
        let stays : is_stable net states (first_of left) ≡ true
        = all_from (λ v. (first_of left v).0 == (stable_path net (first_of left) v (states v)).0) routers (λ v i.
        let here : v < net.nodes = (let r = in_range v 0 net.nodes i in omega arith) in
        let is : first_of left v ≡ stable_path net (first_of left) v (states v)
        = same v here ∙ (stable v ∙ sym (stable_agree net v (states v) (first_of left) ribs same)) in
        eq-eqb (first_of left v).0 (stable_path net (first_of left) v (states v)).0 (ap (λ q. q.0) is)) in
        let kept : (list_all (has_any left) routers && is_stable net states (first_of left)) ≡ true = and_from _ _ any stays in
        rw kept (first_of left, inl refl, same)

    in_part : (ys zs : List (ℕ → PathNo)) → IsFound ys → IsFound (ys ++ zs)
    in_part ys zs f = (f.0, in_left f.0 ys zs f.1, f.2)

    in_others : (ys zs : List (ℕ → PathNo)) → IsFound zs → IsFound (ys ++ zs)
    in_others ys zs f = (f.0, in_right f.0 ys zs f.1, f.2)

    module _ (n : ℕ) (more : (left : ℕ → List PathNo) (xs : List (ℕ → PathNo)) → search net states n left ≡ Some xs → ((w : ℕ) → In (ribs w) (left w)) → IsFound xs) where
      found_each : (left : ℕ → List PathNo) → ((w : ℕ) → In (ribs w) (left w)) → (v : ℕ) (qs : List PathNo) → In (ribs v) qs → (xs : List (ℕ → PathNo))
          → each (search net states n) left v qs ≡ Some xs → IsFound xs
      found_each left within v (q ∷ qs) (inl e) xs h =
          let p = parts_of (search net states n (only_at left v q)) (each (search net states n) left v qs) xs h in
          subst IsFound (sym p.all) (in_part p.first p.others (more (only_at left v q) p.first p.first_is
          (subst (λ z. (w : ℕ) → In (ribs w) (only_at left v z w)) e (within_only left v within))))
      found_each left within v (q ∷ qs) (inr k) xs h =
          let p = parts_of (search net states n (only_at left v q)) (each (search net states n) left v qs) xs h in
          subst IsFound (sym p.all) (in_others p.first p.others (found_each left within v qs k p.others p.others_is))
      found_each left within v [] k xs h = absurd k

      found_split : (left : ℕ → List PathNo) → ((w : ℕ) → In (ribs w) (left w)) → (o : Option ℕ) → find (has_choice left) routers ≡ o → (xs : List (ℕ → PathNo))
          → split net states (search net states n) left o ≡ Some xs → IsFound xs
      found_split left within None none xs h = let is : settled net states left ≡ xs = cc in subst IsFound is (found_settled left within none)
      found_split left within (Some v) some xs h = found_each left within v (left v) (within v) xs h

    pub found : (n : ℕ) (left : ℕ → List PathNo) (xs : List (ℕ → PathNo)) → search net states n left ≡ Some xs → ((w : ℕ) → In (ribs w) (left w)) → IsFound xs
    found zero left xs h within = absurd (cc)
    found (suc n) left xs h within =
        found_split n (found n) (narrowed net states left) (within_narrowed left within) (find (has_choice (narrowed net states left)) routers) refl xs h

    within_all : (w : ℕ) → In (ribs w) (all_paths net states w)
    within_all w =
        elim (cases_Bool (w == 0)) [
          | inl b ↦ rw b (inl (stable w ∙ rw b refl))
          | inr b ↦ rw b (subst (λ z. In z ((states w).order ++ empty_path ∷ [])) (sym (stable w ∙ rw b refl)) (found_in (is_reached net ribs w (states w)) empty_path (states w).order))
        ]

    -- a search of all paths finds it
    pub found_all : (n : ℕ) (xs : List (ℕ → PathNo)) → search net states n (all_paths net states) ≡ Some xs → IsFound xs
    found_all n xs h = found n (all_paths net states) xs h within_all

  -- ---- what is found is stable, and within the lists

  -- an assignment that is stable and takes its paths from the lists
  pub record IsWithin (left : ℕ → List PathNo) (x : ℕ → PathNo) : Type 0 where
    pub stable : IsStableAssignment net states x
    pub there : (v : ℕ) → v < net.nodes → In (x v) (left v)

  within_settled : (left : ℕ → List PathNo) (x : ℕ → PathNo) → In x (settled net states left) → IsWithin left x
  within_settled left x i =
      elim (cases_Bool (list_all (has_any left) routers && is_stable net states (first_of left))) [
        | inr b ↦ absurd (rw b at i)
        | inl b ↦ (
            let one : In x (first_of left ∷ []) = rw b at i in
            let parts = and_parts (list_all (has_any left) routers) (is_stable net states (first_of left)) b in
            let first : IsWithin left (first_of left) = record {
              stable = λ v here. same_number (first_of left v) (stable_path net (first_of left) v (states v))
                  (eqb-true (first_of left v).0 (stable_path net (first_of left) v (states v)).0
                  (all_in (λ w. (first_of left w).0 == (stable_path net (first_of left) w (states w)).0) v routers parts.1 (range_has v 0 net.nodes (omega arith) (omega arith))));
              there = λ v here. first_in (left v) (all_in (has_any left) v routers parts.0 (range_has v 0 net.nodes (omega arith) (omega arith)));
            } in
            elim one [ inl e ↦ subst (IsWithin left) (sym e) first | inr none ↦ absurd none ])
      ]

  module _ (n : ℕ) (more : (left : ℕ → List PathNo) (xs : List (ℕ → PathNo)) → search net states n left ≡ Some xs → (x : ℕ → PathNo) → In x xs → IsWithin left x) where
    within_each : (left : ℕ → List PathNo) (v : ℕ) (qs : List PathNo) (xs : List (ℕ → PathNo))
        → each (search net states n) left v qs ≡ Some xs → (x : ℕ → PathNo) → In x xs → (q : PathNo) × In q qs × IsWithin (only_at left v q) x
    within_each left v [] xs h x i = let is : xs ≡ [] = cc in absurd (subst (In x) is i)
    within_each left v (q ∷ qs) xs h x i =
        let p = parts_of (search net states n (only_at left v q)) (each (search net states n) left v qs) xs h in
        elim (in_append x p.first p.others (subst (In x) p.all i)) [
          | inl k ↦ (q, inl refl, more (only_at left v q) p.first p.first_is x k)
          | inr k ↦ (let r = within_each left v qs p.others p.others_is x k in (r.0, inr r.1, r.2))
        ]

    -- the path of the router that was tried is the one tried
    pub tried_at : (left : ℕ → List PathNo) (v : ℕ) (q : PathNo) (x : ℕ → PathNo) → v < net.nodes → IsWithin (only_at left v q) x → x v ≡ q
    tried_at left v q x here is =
        let one : In (x v) (q ∷ []) = rw (eq-eqb v v refl) at (is.there v here) in
        elim one [ inl e ↦ e | inr none ↦ absurd none ]

    untried : (left : ℕ → List PathNo) (v : ℕ) (q : PathNo) → In q (left v) → (x : ℕ → PathNo) → IsWithin (only_at left v q) x → IsWithin left x
    untried left v q i x is = grind arith

    within_split : (left : ℕ → List PathNo) (o : Option ℕ) (xs : List (ℕ → PathNo)) → split net states (search net states n) left o ≡ Some xs
        → (x : ℕ → PathNo) → In x xs → IsWithin left x
    within_split left None xs h x i = let is : xs ≡ settled net states left = cc in within_settled left x (subst (In x) is i)
    within_split left (Some v) xs h x i = let r = within_each left v (left v) xs h x i in untried left v r.0 r.1 x r.2

  within_wider : (left : ℕ → List PathNo) (x : ℕ → PathNo) → IsWithin (narrowed net states left) x → IsWithin left x
  within_wider left x is = grind (arith, in_filter)

  -- what a search finds is stable, and within its lists
  pub found_within : (n : ℕ) (left : ℕ → List PathNo) (xs : List (ℕ → PathNo)) → search net states n left ≡ Some xs → (x : ℕ → PathNo) → In x xs → IsWithin left x
  found_within zero left xs h x i = absurd (cc)
  found_within (suc n) left xs h x i =
      within_wider left x (within_split n (found_within n) (narrowed net states left) (find (has_choice (narrowed net states left)) routers) xs h x i)

  -- ---- nothing is found twice

  -- each gives some router another path than each behind it
  abbrev pub AreApart : List (ℕ → PathNo) → Type 0
  AreApart [] = Unit {0}
  AreApart (x ∷ xs) = ((y : ℕ → PathNo) → In y xs → Differ net.nodes x y) × AreApart xs

  apart_join : (ys zs : List (ℕ → PathNo)) → AreApart ys → AreApart zs → ((y z : ℕ → PathNo) → In y ys → In z zs → Differ net.nodes y z) → AreApart (ys ++ zs)
  apart_join [] zs a b between = b
  apart_join (y ∷ ys) zs a b between = (
    (λ z i. elim (in_append z ys zs i) [ inl k ↦ a.0 z k | inr k ↦ between y z (inl refl) k ]),
    apart_join ys zs a.1 b (λ x z i k. between x z (inr i) k),
  )

  pub not_again : (q : PathNo) (qs : List PathNo) → list_any (λ y. q.0 == y.0) qs ≡ false → In q qs → ⊥
  not_again q qs none i = both_ways (list_any (λ y. q.0 == y.0) qs) none (any_from_in (λ y. q.0 == y.0) q qs (eq-eqb q.0 q.0 refl) i)

  pub once_filter : (p : PathNo → Bool) (xs : List PathNo) → AreOnce xs → AreOnce (filter p xs)
  once_filter p [] once = tt
  once_filter p (x ∷ xs) once =
      elim (cases_Bool (p x)) [
        | inr b ↦ rw b (once_filter p xs once.1)
        | inl b ↦ rw b (elim (cases_Bool (list_any (λ y. x.0 == y.0) (filter p xs))) [
          | inr c ↦ (c, once_filter p xs once.1)
          | inl c ↦ absurd (not_again x xs once.0 (in_filter p x xs (number_in x (filter p xs) c)).1)
        ])
      ] where
        number_in : (q : PathNo) (ys : List PathNo) → list_any (λ y. q.0 == y.0) ys ≡ true → In q ys
        number_in q (y ∷ ys) h =
            elim (cases_Bool (q.0 == y.0)) [
              | inl b ↦ inl (same_number q y (eqb-true q.0 y.0 b))
              | inr b ↦ inr (number_in q ys (rw b at h))
            ]
        number_in q [] h = absurd (false≢true h)

  once_only : (left : ℕ → List PathNo) (v : ℕ) (q : PathNo) → ((w : ℕ) → AreOnce (left w)) → (w : ℕ) → AreOnce (only_at left v q w)
  once_only left v q once w = elim (cases_Bool (w == v)) [ inl b ↦ rw b (refl, tt) | inr b ↦ rw b (once w) ]

  module _ (n : ℕ) (more : (left : ℕ → List PathNo) (xs : List (ℕ → PathNo)) → ((w : ℕ) → AreOnce (left w)) → search net states n left ≡ Some xs → AreApart xs) where
    apart_each : (left : ℕ → List PathNo) → ((w : ℕ) → AreOnce (left w)) → (v : ℕ) → v < net.nodes → (qs : List PathNo) → AreOnce qs → (xs : List (ℕ → PathNo))
        → each (search net states n) left v qs ≡ Some xs → AreApart xs
    apart_each left once v here [] each_once xs h = let is : [] ≡ xs = cc in subst AreApart is tt
    apart_each left once v here (q ∷ qs) each_once xs h =
        let p = parts_of (search net states n (only_at left v q)) (each (search net states n) left v qs) xs h in
        subst AreApart (sym p.all) (apart_join p.first p.others
        (more (only_at left v q) p.first (once_only left v q once) p.first_is)
        (apart_each left once v here qs each_once.1 p.others p.others_is)
        (λ y z i k.
        let mine : y v ≡ q = tried_at n (found_within n) left v q y here (found_within n (only_at left v q) p.first p.first_is y i) in
        let r = within_each n (found_within n) left v qs p.others p.others_is z k in
        let others : z v ≡ r.0 = tried_at n (found_within n) left v r.0 z here r.2 in
        (v, here, λ e. not_again q qs each_once.0 (subst (λ s. In s qs) (sym others ∙ (sym e ∙ mine)) r.1))))

    apart_split : (left : ℕ → List PathNo) → ((w : ℕ) → AreOnce (left w)) → (o : Option ℕ) → find (has_choice left) routers ≡ o → (xs : List (ℕ → PathNo))
        → split net states (search net states n) left o ≡ Some xs → AreApart xs
    apart_split left once None none xs h = grind arith
    apart_split left once (Some v) some xs h =
        let r = in_range v 0 net.nodes (in_find (has_choice left) v routers some).1 in
        apart_each left once v (omega arith) (left v) (once v) xs h

  found_apart_in : (n : ℕ) (left : ℕ → List PathNo) (xs : List (ℕ → PathNo)) → ((w : ℕ) → AreOnce (left w)) → search net states n left ≡ Some xs → AreApart xs
  found_apart_in zero left xs once h = absurd (cc)
  found_apart_in (suc n) left xs once h =
      apart_split n (found_apart_in n) (narrowed net states left)
      (λ w. once_filter (is_one_of (if w == 0 then origin_path ∷ [] else remaining net states left w [] (states w).order)) (left w) (once w))
      (find (has_choice (narrowed net states left)) routers) refl xs h

  -- ---- by places

  apart_at : (xs : List (ℕ → PathNo)) → AreApart xs → (j k : ℕ) → j < k → k < length xs
      → Differ net.nodes (get_or xs j (λ w. empty_path)) (get_or xs k (λ w. empty_path))
  apart_at [] a j k before here = absurd (omega arith)
  apart_at (x ∷ xs) a j zero before here = absurd (omega arith)
  apart_at (x ∷ xs) a zero (suc k) before here = a.0 (get_or xs k (λ w. empty_path)) (in_get_or xs k (λ w. empty_path) (omega arith))
  apart_at (x ∷ xs) a (suc j) (suc k) before here = apart_at xs a.1 j k (omega arith) (omega arith)

  pub stable_at : (n : ℕ) (xs : List (ℕ → PathNo)) → search net states n (all_paths net states) ≡ Some xs → (k : ℕ) → k < length xs
      → IsStableAssignment net states (get_or xs k (λ w. empty_path))
  stable_at n xs h k here =
      (found_within n (all_paths net states) xs h (get_or xs k (λ w. empty_path)) (in_get_or xs k (λ w. empty_path) here)).stable

  pub listed_at : (n : ℕ) (xs : List (ℕ → PathNo)) → search net states n (all_paths net states) ≡ Some xs → (ribs : ℕ → PathNo) → IsStableAssignment net states ribs
      → (k : ℕ) × (k < length xs) × ((v : ℕ) → v < net.nodes → get_or xs k (λ w. empty_path) v ≡ ribs v)
  listed_at n xs h ribs stable =
      let f = found_all (everywhere net states ribs) (stable_everywhere net states ribs stable) n xs h in
      let p = place f.0 xs f.1 in
      (p.0, p.1, λ v here. ap (λ x. x v) (p.2 (λ w. empty_path)) ∙ (f.2 v here ∙ everywhere_is net states ribs v here))

  pub once_at : (n : ℕ) (xs : List (ℕ → PathNo)) → ((v : ℕ) → AreOnce (all_paths net states v)) → search net states n (all_paths net states) ≡ Some xs
      → (j k : ℕ) → j < k → k < length xs → Differ net.nodes (get_or xs j (λ w. empty_path)) (get_or xs k (λ w. empty_path))
  once_at n xs once h = apart_at xs (found_apart_in n (all_paths net states) xs once h)
