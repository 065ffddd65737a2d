-- What the rules of an instance give of its paths: each number its own nodes.
use Rattle.std.proofs.Common.{◌≡◌, ◌≢◌, ℕ, suc, zero, ◌+◌, ◌<◌, ◌≤◌, ◌==◌, Bool, true, not, ◌&&◌, List, [], ◌∷◌, ◌++◌, length, map, get_or, None, refl, ap, sym, ◌∙◌, subst, inl, inr, arith, ◌↔◌}
use Rattle.std.specs.Prelude.{nat_eq}
use Rattle.std.specs.Bool.{Decides}
use Rattle.std.specs.List.{All, AllPairs, filter, list_any, range_with_len, swap}
use Rattle.std.proofs.lemmas.Bool.{cases_lt, both_ways, and_parts, and_from, or_cases, or_parts, not-false, eqb-true, eqb-false, eq-eqb}
use Rattle.std.proofs.lemmas.Cmp.{nat_list_eq_equiv}
use Rattle.std.proofs.lemmas.Bool.Decides.{same_from_decides}
use Rattle.std.proofs.lemmas.List.{get_or-map, get_or_past, length-map}
use Rattle.std.proofs.lemmas.List.FromFn.{get_or-range_with_len, length-range_with_len}
use Rattle.std.proofs.lemmas.List.Kept.{AllPairs-from_increasing, IsStrictlyIncreasing-filter}
use Rattle.std.proofs.lemmas.List.Sorted.{IsPermutation-swap}
use Rattle.std.proofs.lemmas.Map.Keys.{IsDistinct-IsPermutation}
use Rattle.std.proofs.lemmas.Map.Made.{AllPairs-from_IsDistinct, IsDistinct-from_AllPairs}
use Rattle.std.specs.List.Sorted.{IsStrictlyIncreasing}
use Rattle.tw_event.specs.declared.event.PathNo.{PathNo}
use Rattle.tw_model.specs.declared.rule.Rule.TheVariants.{PathOwner, TwicePath}
use Rattle.tw_model.specs.PermittedPath.{PermittedPath}
use Rattle.tw_model.specs.Net.{Net, paths, path, IsPath, empty_path, origin_path, same_path, begins_at, paths_of, is_own, is_permitted}
use Rattle.tw_model.specs.Rules.{IsNet, PathsFollow, path_breaks, path_fault}
use Rattle.tw_sim.proofs.Members.{In, in_left, in_right, in_map, in_mapped, in_filter, in_filtered, in_get_or, in_range, range_has, any_from_in, all_from_in}
use Rattle.tw_model.proofs.Unbroken.{none_broken}

-- ---- lists of nodes

pub same_path_self : (p : List ℕ) → same_path p p ≡ true
same_path_self p = nat_list_eq_equiv.refl p

pub same_path_is : (p q : List ℕ) → same_path p q ≡ true → p ≡ q
same_path_is [] [] h = refl
same_path_is [] (y ∷ q) h = cc
same_path_is (x ∷ p) [] h = cc
same_path_is (x ∷ p) (y ∷ q) h =
    let k = and_parts (nat_eq x y) (same_path p q) h in
    let a = eqb-true x y k.0 in
    let b = same_path_is p q k.1 in
    cc

begins_once : (p : List ℕ) (v w : ℕ) → begins_at p v ≡ true → begins_at p w ≡ true → v ≡ w
begins_once [] v w h k = cc
begins_once (x ∷ p) v w h k = sym (eqb-true x v h) ∙ eqb-true x w k

-- ---- the permitted paths as given

-- a permitted path that keeps the rules begins at its owner, who is not the origin
pub record HasOwner (p : PermittedPath) : Type 0 where
  pub owner : p.owner ≡ 0 → ⊥
  pub begins : begins_at p.nodes p.owner ≡ true

has_owner : (net : Net) (p : PermittedPath) → path_fault net p ≡ None → HasOwner p
has_owner net p fault =
    let k = or_parts (p.owner == 0) (not (begins_at p.nodes p.owner)) (none_broken (path_breaks net p) fault PathOwner) in
    record { owner = eqb-false p.owner 0 k.0; begins = not-false (begins_at p.nodes p.owner) k.1 }

have_owners : (net : Net) (paths : List PermittedPath) → PathsFollow net paths → (p : PermittedPath) → In p paths → HasOwner p
have_owners net (x ∷ paths) h p (inl e) = subst HasOwner (sym e) (has_owner net x h.0)
have_owners net (x ∷ paths) h p (inr k) = have_owners (record net { permitted = net.permitted ++ x ∷ [] }) paths h.1 p k
have_owners net [] h p k = absurd k

pub has_owner_of : (net : Net) → IsNet net → (p : PermittedPath) → In p net.permitted → HasOwner p
has_owner_of net is p k = have_owners (record { nodes = net.nodes; links = net.links; permitted = [] }) net.permitted is.permitted p k

-- no list of nodes stands twice
abbrev pub AreApart : List (List ℕ) → Type 0
AreApart [] = Unit {0}
AreApart (p ∷ ps) = ((q : List ℕ) → In q ps → p ≡ q → ⊥) × AreApart ps

paths_new : (net : Net) (paths : List PermittedPath) → PathsFollow net paths → (q : PermittedPath) → HasOwner q → In q net.permitted → (p : PermittedPath) → In p paths → q.nodes ≡ p.nodes → ⊥
paths_new net (x ∷ paths) h q is k p (inl e) same =
    let fresh = none_broken (path_breaks net x) h.0 TwicePath in
    let owned = has_owner net x h.0 in
    let nodes : q.nodes ≡ x.nodes = same ∙ ap (λ l. l.nodes) e in
    let owners = begins_once q.nodes q.owner x.owner is.begins (subst (λ n. begins_at n x.owner ≡ true) (sym nodes) owned.begins) in
    let twice = any_from_in (λ l. l.owner == x.owner && same_path l.nodes x.nodes) q net.permitted
    (and_from (q.owner == x.owner) (same_path q.nodes x.nodes) (eq-eqb q.owner x.owner owners) (subst (λ n. same_path q.nodes n ≡ true) nodes (same_path_self q.nodes))) k in
    both_ways (list_any (λ l. l.owner == x.owner && same_path l.nodes x.nodes) net.permitted) fresh twice
paths_new net (x ∷ paths) h q is k p (inr more) same =
    paths_new (record net { permitted = net.permitted ++ x ∷ [] }) paths h.1 q is (in_left q net.permitted (x ∷ []) k) p more same
paths_new net [] h q is k p more same = absurd more

permitted_apart : (net : Net) (paths : List PermittedPath) → PathsFollow net paths → AreApart (map (λ l. l.nodes) paths)
permitted_apart net [] h = tt
permitted_apart net (x ∷ paths) h = (
  (λ q k same.
      let p = in_map (λ l. l.nodes) q paths k in
      paths_new (record net { permitted = net.permitted ++ x ∷ [] }) paths h.1 x (has_owner net x h.0) (in_right x net.permitted (x ∷ []) (inl refl)) p.0 p.2 (same ∙ p.1)),
  permitted_apart (record net { permitted = net.permitted ++ x ∷ [] }) paths h.1,
)

paths_apart : (net : Net) → IsNet net → AreApart (paths net)
paths_apart net is = grind (arith, in_map, has_owner_of, eqb-true, permitted_apart)

apart_places : (ps : List (List ℕ)) → AreApart ps → (i j : ℕ) → i < length ps → j < length ps → get_or ps i [] ≡ get_or ps j [] → i ≡ j
apart_places [] a i j l m e = absurd (omega arith)
apart_places (p ∷ ps) a zero zero l m e = refl
apart_places (p ∷ ps) a zero (suc j) l m e = absurd (a.0 (get_or ps j []) (in_get_or ps j [] (omega arith)) e)
apart_places (p ∷ ps) a (suc i) zero l m e = absurd (a.0 (get_or ps i []) (in_get_or ps i [] (omega arith)) (sym e))
apart_places (p ∷ ps) a (suc i) (suc j) l m e = ap suc (apart_places ps a.1 i j (omega arith) (omega arith) e)

-- ---- numbers and nodes

pub path_empty : (net : Net) → path net empty_path ≡ []
unfolding path
path_empty net = refl

pub path_origin : (net : Net) → path net origin_path ≡ 0 ∷ []
unfolding path
path_origin net = refl

-- two numbers with the same nodes are the same
pub path_exact : (net : Net) → IsNet net → (p q : PathNo) → IsPath net p → IsPath net q → path net p ≡ path net q → p ≡ q
unfolding path
path_exact net is p q l m e =
    let same = apart_places (paths net) (paths_apart net is) p.0 q.0 l m e in
    λ i. record { 0 = same i }

-- no other number than 0 has no nodes
pub path_some : (net : Net) → IsNet net → (p : PathNo) → IsPath net p → path net p ≡ [] → p.0 ≡ 0
path_some net is p l e =
    ap (λ r. r.0) (path_exact net is p empty_path l (omega arith) (e ∙ sym (path_empty net)))

-- a number past the last path has no nodes
pub path_past : (net : Net) (p : PathNo) → length (paths net) ≤ p.0 → path net p ≡ []
unfolding path
path_past net p h = get_or_past (paths net) p.0 [] h

-- what has an own path is a path, and not the empty one
pub own_is_path : (net : Net) (v : ℕ) (q : PathNo) → is_own net v q ≡ true → IsPath net q × (q.0 ≡ 0 → ⊥)
own_is_path net v q h = (
  elim (cases_lt q.0 (length (paths net))) [
    | inl l ↦ l
    | inr l ↦ (let b : begins_at [] v ≡ true = subst (λ p. begins_at p v ≡ true) (path_past net q l) h in cc)
  ],
  (λ zero_is.
      let e : path net q ≡ [] = ap (λ n. path net (record { 0 = n })) zero_is ∙ path_empty net in
      let b : begins_at [] v ≡ true = subst (λ p. begins_at p v ≡ true) e h in
      cc),
)

pub permitted_is_path : (net : Net) (v : ℕ) (q : PathNo) → is_permitted net v q ≡ true → IsPath net q
permitted_is_path net v q h = grind (arith, or_cases, eqb-true, own_is_path)

-- the paths of v are those that begin at v
pub in_paths_of : (net : Net) (v : ℕ) (q : PathNo) → In q (paths_of net v) ↔ (IsPath net q × (is_own net v q ≡ true))
unfolding paths_of path
in_paths_of net v q = (
  (λ k.
      let a = in_map (λ n. record { 0 = n }) q _ k in
      let b = in_filter (λ n. begins_at (get_or (paths net) n []) v) a.0 (range_with_len 0 (length (paths net))) a.2 in
      let c = in_range a.0 0 (length (paths net)) b.1 in
      let e : q.0 ≡ a.0 = ap (λ p. p.0) a.1 in
      (omega arith, subst (λ n. begins_at (get_or (paths net) n []) v ≡ true) (sym e) b.0)),
  (λ k.
      in_mapped (λ n. record { 0 = n }) q.0 _
      (in_filtered (λ n. begins_at (get_or (paths net) n []) v) q.0 (range_with_len 0 (length (paths net))) k.1 (range_has q.0 0 (length (paths net)) (omega arith) (omega arith)))),
)

pub paths_own : (net : Net) (v : ℕ) → All (λ q. is_own net v q ≡ true) (paths_of net v)
paths_own net v = all_from_in (λ q. is_own net v q ≡ true) (paths_of net v) (λ q k. ((in_paths_of net v q).0 k).1)

-- ---- orders without repeats

rising-range : (a n : ℕ) → IsStrictlyIncreasing (range_with_len a n)
rising-range a n k within = grind (arith, length-range_with_len, get_or-range_with_len)

abbrev numbered : ℕ → PathNo
numbered k = record { 0 = k }

distinct-numbers : (numbers : List ℕ) → AllPairs (λ m n. m < n) numbers → AllPairs (λ p q. p ≢ q) (map numbered numbers)
distinct-numbers numbers rising i j d before within same =
    let long = length-map numbers numbered in
    let one : (get_or (map numbered numbers) i d).0 ≡ get_or numbers i 0 = ap (λ p. p.0) (get_or-map numbered numbers i 0 d (omega arith)) in
    let two : (get_or (map numbered numbers) j d).0 ≡ get_or numbers j 0 = ap (λ p. p.0) (get_or-map numbered numbers j 0 d (omega arith)) in
    let less = rising i j 0 before (omega arith) in
    let equal = ap (λ p. p.0) same in
    omega arith

-- the permitted paths of v stand in ascending order, and so each once
pub paths_of-distinct : (net : Net) (v : ℕ) → AllPairs (λ p q. p ≢ q) (paths_of net v)
unfolding paths_of
paths_of-distinct net v =
    let begins : ℕ → Bool = λ k. begins_at (get_or (paths net) k []) v in
    let all : List ℕ = range_with_len 0 (length (paths net)) in
    distinct-numbers (filter begins all) (AllPairs-from_increasing (filter begins all) (IsStrictlyIncreasing-filter begins all (rising-range 0 (length (paths net)))))

same_number : (p q : PathNo) → Decides (p.0 == q.0) (p ≡ q)
same_number p q = grind arith

number_flips : (p q : PathNo) → (p.0 == q.0) ≡ (q.0 == p.0)
number_flips p q =
    let d = same_number q p in same_from_decides (p.0 == q.0) (q.0 == p.0) (same_number p q) ((λ h. sym (d.0 h)), (λ e. d.1 (sym e)))

-- an order without repeats of which two places are exchanged
pub distinct-swap : (order : List PathNo) (i j : ℕ) → i < length order → j < length order
    → AllPairs (λ p q. p ≢ q) order → AllPairs (λ p q. p ≢ q) (swap order i j)
distinct-swap order i j within_i within_j distinct =
    AllPairs-from_IsDistinct same_number (swap order i j)
    (IsDistinct-IsPermutation (λ p q. p.0 == q.0) number_flips order (swap order i j) (IsPermutation-swap order (swap order i j) i j within_i within_j refl)
    (IsDistinct-from_AllPairs same_number order distinct))
