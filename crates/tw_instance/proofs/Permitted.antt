-- What the rules give of a net's permitted paths, and what one more path adds.
use Rattle.std.proofs.Common.{◌≡◌, ℕ, suc, zero, ◌+◌, ◌-◌, ◌*◌, ◌<◌, ◌≤◌, ◌==◌, Bool, true, false, not, cond, ◌&&◌, List, [], ◌∷◌, ◌++◌, length, map, get_or, arith, nat_lt, nat_le}
use Rattle.std.proofs.Common.{refl, ap, sym, ◌∙◌, subst, inl, inr, Option, Some, None, is_some, filter, IfSome, append_assoc}
use Rattle.std.specs.Cmp.{both_ways as same_truth}
use Rattle.std.specs.List.{All, list_all, list_any, range_with_len}
use Rattle.std.proofs.lemmas.Bool.{cases_Bool, cases_eq, eqb-true, eqb-false, eq-eqb, ltb-true, ne_eqb, and_parts, and_from, or_parts, not-false, not-true, leb-false}
use Rattle.std.proofs.lemmas.List.Elements.{All-filter, All-head, All-nil, All-push, filter-append, filter_passes}
use Rattle.std.proofs.lemmas.List.Filters.{length-filter_both}
use Rattle.std.proofs.lemmas.List.Folds.{list_any_at, Any-from_list_any}
use Rattle.std.proofs.lemmas.List.{append-nil, length_push, length-map, map-append, map_push, get_or_append_left, get_or_push}
use Rattle.tw_event.specs.declared.event.PathNo.{PathNo}
use Rattle.tw_model.specs.declared.limits.TheConstants.{MOST_NODES, MOST_PATHS, MOST_ROUTERS}
use Rattle.tw_model.specs.declared.net.Link.{Link}
use Rattle.tw_model.specs.declared.rule.Rule.TheVariants.{Range, PathOwner, TwicePath, TooMany}
use Rattle.tw_model.specs.PermittedPath.{PermittedPath}
use Rattle.tw_model.specs.Net.{Net, IsPath, begins_at, origin_path, path, paths, paths_of, same_path}
use Rattle.tw_model.specs.Rules.{IsNet, PathsFollow, path_breaks, path_count, path_fault}
use Rattle.tw_model.proofs.Nets.{nodes_within}
use Rattle.tw_model.proofs.Unbroken.{none_broken}
use Rattle.tw_model.proofs.Paths.{same_path_is, same_path_self}
use Rattle.tw_instance.proofs.Lists.{count_push, filter_alike, range_push}
use Rattle.tw_instance.proofs.Paths.{index-map, path-empty, path-given, path-origin}

-- ---- the rules of a path

-- a path of a router below so many, and not of the origin
abbrev pub IsOwned : ℕ → PermittedPath → Type 0
IsOwned nodes p = (0 < p.owner) × (p.owner < nodes)

-- a path that begins at its owner
abbrev pub Begins : PermittedPath → Type 0
Begins p = begins_at p.nodes p.owner ≡ true

-- whether these nodes were given for this owner
abbrev pub is_given : List PermittedPath → ℕ → List ℕ → Bool
is_given paths owner nodes = list_any (λ q. q.owner == owner && same_path q.nodes nodes) paths

-- what a path keeps after those of the net
pub record IsNextPath (net : Net) (p : PermittedPath) : Type 0 where
  pub owner : p.owner < net.nodes
  pub some : 0 < p.owner
  pub begins : Begins p
  pub new : is_given net.permitted p.owner p.nodes ≡ false
  pub room : path_count net.permitted p.owner < MOST_PATHS

pub next_path : (net : Net) (p : PermittedPath) → path_fault net p ≡ None → IsNextPath net p
next_path net p h =
    let no = none_broken (path_breaks net p) h in
    let range = and_parts (nat_lt p.owner net.nodes) (list_all (λ v. nat_lt v net.nodes) p.nodes) (not-false (nat_lt p.owner net.nodes && list_all (λ v. nat_lt v net.nodes) p.nodes) (no Range)) in
    let owner = or_parts (p.owner == 0) (not (begins_at p.nodes p.owner)) (no PathOwner) in
    let room = or_parts (nat_le MOST_PATHS (path_count net.permitted p.owner)) (nat_lt MOST_NODES (length p.nodes)) (no TooMany) in
    let some : p.owner ≡ 0 → ⊥ = eqb-false p.owner 0 owner.0 in
    record {
      owner = ltb-true p.owner net.nodes range.0;
      some = omega arith;
      begins = not-false (begins_at p.nodes p.owner) owner.1;
      new = no TwicePath;
      room = leb-false MOST_PATHS (path_count net.permitted p.owner) room.0;
    }

-- what paths that follow one another keep holds after each, so at the end
paths_hold : (P : List PermittedPath → Type 0) (net : Net)
    → ((before : List PermittedPath) (p : PermittedPath) → path_fault (record net { permitted = before }) p ≡ None → P before → P (before ++ p ∷ []))
    → (before paths : List PermittedPath) → PathsFollow (record net { permitted = before }) paths → P before → P (before ++ paths)
paths_hold P net step before [] h s = subst P (sym (append-nil before)) s
paths_hold P net step before (p ∷ paths) h s =
    subst P (append_assoc before (p ∷ []) paths) (paths_hold P net step (before ++ p ∷ []) paths h.1 (step before p h.0 s))

-- ---- the numbers of one more path

abbrev places : List (List ℕ) → ℕ → List ℕ
places ps v = filter (λ k. begins_at (get_or ps k []) v) (range_with_len 0 (length ps))

places_more : (ps : List (List ℕ)) (x : List ℕ) (v : ℕ) → places (ps ++ x ∷ []) v ≡ places ps v ++ cond (begins_at x v) (length ps ∷ []) []
places_more ps x v =
    let n = length ps in
    let more : List (List ℕ) = ps ++ x ∷ [] in
    let starts = λ (k : ℕ). begins_at (get_or more k []) v in
    let e : length more ≡ suc n = omega (arith, length_push ps x) in
    let last : get_or more n [] ≡ x = get_or_push ps x [] n refl in
    let before = filter_alike starts (λ k. begins_at (get_or ps k []) v) n 0 (λ k h. ap (λ q. begins_at q v) (get_or_append_left ps (x ∷ []) [] k (omega arith))) in
    ap (λ m. filter starts (range_with_len 0 m)) e
    ∙ (ap (filter starts) (range_push n 0)
    ∙ (filter-append starts (range_with_len 0 n) ((0 + n) ∷ [])
    ∙ (let z : 0 + n ≡ n = omega arith in rw (z, last) (ap (λ xs. xs ++ cond (begins_at x v) (n ∷ []) []) before))))

abbrev no : ℕ → PathNo
no k = record { 0 = k }

map_no : (b : Bool) (k : ℕ) → map no (cond b (k ∷ []) []) ≡ cond b (no k ∷ []) []
map_no true k = refl
map_no false k = refl

pub paths_push : (net : Net) (p : PermittedPath) → paths (record net { permitted = net.permitted ++ p ∷ [] }) ≡ paths net ++ p.nodes ∷ []
paths_push net p = ap (λ (ps : List (List ℕ)). [] ∷ (0 ∷ []) ∷ ps) (map_push (λ (l : PermittedPath). l.nodes) net.permitted p)

pub length-paths : (net : Net) → length (paths net) ≡ suc (suc (length net.permitted))
length-paths net = ap (λ n. suc (suc n)) (length-map net.permitted (λ (l : PermittedPath). l.nodes))

-- the next number is permitted where the path begins
paths_more : (net : Net) (p : PermittedPath) (v : ℕ) → paths_of (record net { permitted = net.permitted ++ p ∷ [] }) v ≡ paths_of net v ++ cond (begins_at p.nodes v) (no (length (paths net)) ∷ []) []
unfolding paths_of
paths_more net p v =
    ap (λ ps. map no (places ps v)) (paths_push net p)
    ∙ (ap (map no) (places_more (paths net) p.nodes v)
    ∙ (map-append no (places (paths net) v) (cond (begins_at p.nodes v) (length (paths net) ∷ []) [])
    ∙ ap (λ qs. map no (places (paths net) v) ++ qs) (map_no (begins_at p.nodes v) (length (paths net)))))

pub begins_owner : (p : List ℕ) (owner v : ℕ) → begins_at p owner ≡ true → begins_at p v ≡ (owner == v)
begins_owner [] owner v h = absurd (cc)
begins_owner (x ∷ p) owner v h = ap (λ n. n == v) (eqb-true x owner h)

-- the permitted paths after one more: its number comes last at its owner
pub record IsListedAt (net : Net) (p : PermittedPath) : Type 0 where
  pub owner : paths_of (record net { permitted = net.permitted ++ p ∷ [] }) p.owner ≡ paths_of net p.owner ++ no (suc (suc (length net.permitted))) ∷ []
  pub others : (v : ℕ) → (v ≡ p.owner → ⊥) → paths_of (record net { permitted = net.permitted ++ p ∷ [] }) v ≡ paths_of net v

pub is_listed : (net : Net) (p : PermittedPath) → begins_at p.nodes p.owner ≡ true → IsListedAt net p
is_listed net p begins = record {
  owner = paths_more net p p.owner ∙ rw begins (ap (λ k. paths_of net p.owner ++ no k ∷ []) (length-paths net));
  others = λ v ne. paths_more net p v ∙ (let other = begins_owner p.nodes p.owner v begins ∙ ne_eqb p.owner v (λ e. ne (sym e)) in rw other (append-nil (paths_of net v)));
}

-- ---- how many paths a router has

-- a path counts at its owner
count_path : (paths : List PermittedPath) (p : PermittedPath) (v : ℕ) (b : Bool) → (p.owner == v) ≡ b → path_count (paths ++ p ∷ []) v ≡ path_count paths v + cond b 1 0
count_path paths p v b e = count_push (λ l. l.owner == v) paths p ∙ rw e refl

-- of each router but the origin the permitted paths are as many as were given for it; of the origin there is one
pub record AreListed (net : Net) : Type 0 where
  pub origin : paths_of net 0 ≡ origin_path ∷ []
  pub counts : (v : ℕ) → 0 < v → length (paths_of net v) ≡ path_count net.permitted v
  pub few : (v : ℕ) → path_count net.permitted v ≤ MOST_PATHS
  pub owners : All (IsOwned net.nodes) net.permitted
  pub begin : All Begins net.permitted

are_listed_more : (net : Net) (p : PermittedPath) → IsNextPath net p → AreListed net → AreListed (record net { permitted = net.permitted ++ p ∷ [] })
are_listed_more net p next so =
    let more : Net = record net { permitted = net.permitted ++ p ∷ [] } in
    let at = is_listed net p next.begins in
    let ours = count_path net.permitted p p.owner true (eq-eqb p.owner p.owner refl) in
    let theirs = λ (v : ℕ) (ne : v ≡ p.owner → ⊥). count_path net.permitted p v false (ne_eqb p.owner v (λ e. ne (sym e))) in
    let longer = ap length at.owner ∙ length_push (paths_of net p.owner) (no (suc (suc (length net.permitted)))) in
    let counts_ours : length (paths_of more p.owner) ≡ path_count more.permitted p.owner = (let same = so.counts p.owner next.some in omega arith) in
    let few_ours : path_count more.permitted p.owner ≤ MOST_PATHS = (let room = next.room in omega arith) in
    record {
      origin = at.others 0 (λ e. let some = next.some in omega arith) ∙ so.origin;
      counts = λ v pos. elim (cases_eq v p.owner) [
        | inl e ↦ subst (λ u. length (paths_of more u) ≡ path_count more.permitted u) (sym e) counts_ours
        | inr ne ↦ (let kept = ap length (at.others v ne) in let same = so.counts v pos in let count = theirs v ne in omega arith)
      ];
      few = λ v. elim (cases_eq v p.owner) [
        | inl e ↦ subst (λ u. path_count more.permitted u ≤ MOST_PATHS) (sym e) few_ours
        | inr ne ↦ (let count = theirs v ne in let few = so.few v in omega arith)
      ];
      owners = All-push (IsOwned net.nodes) net.permitted p so.owners (next.some, next.owner);
      begin = All-push Begins net.permitted p so.begin next.begins;
    }

pub none_permitted : (nodes v : ℕ) (links : List Link) → paths_of (record { nodes = nodes; links = links; permitted = [] }) v ≡ cond (0 == v) (origin_path ∷ []) []
unfolding paths_of
none_permitted nodes v links = map_no (0 == v) 1

pub are_listed : (net : Net) → IsNet net → AreListed net
are_listed net h =
    let none : (v : ℕ) → 0 < v → paths_of (record net { permitted = [] }) v ≡ [] =
    λ v pos. none_permitted net.nodes v net.links ∙ (let ne : (0 == v) ≡ false = ne_eqb 0 v (λ e. omega arith) in rw ne refl) in
    let start : AreListed (record net { permitted = [] }) = record {
      origin = none_permitted net.nodes 0 net.links;
      counts = λ v pos. ap length (none v pos);
      few = λ v. omega arith;
      owners = All-nil (IsOwned net.nodes);
      begin = All-nil Begins;
    } in
    paths_hold (λ paths. AreListed (record net { permitted = paths })) net
    (λ before p no_fault so. are_listed_more (record net { permitted = before }) p (next_path _ p no_fault) so) [] net.permitted h.permitted start

-- ---- how many paths there are

abbrev owned : ℕ → PermittedPath → Bool
owned v p = p.owner == v

abbrev others : ℕ → List PermittedPath → List PermittedPath
others v paths = filter (λ p. not (owned v p)) paths

others_below : (m : ℕ) (paths : List PermittedPath) → All (IsOwned (suc (suc m))) paths → All (IsOwned (suc m)) (others (suc m) paths)
others_below m paths all k d within =
    let other = λ (p : PermittedPath). not (owned (suc m) p) in
    let owner = All-filter other (IsOwned (suc (suc m))) paths all k d within in
    let ne = eqb-false (get_or (others (suc m) paths) k d).owner (suc m) (not-true _ (filter_passes other paths k d within)) in
    let high = owner.1 in
    (owner.0, omega arith)

count_others : (u v : ℕ) (paths : List PermittedPath) → path_count (others u paths) v ≤ path_count paths v
count_others u v [] = omega arith
count_others u v (p ∷ paths) =
    let rest = count_others u v paths in
    elim (cases_Bool (p.owner == u)) [
      | inl t ↦ rw t (elim (cases_Bool (p.owner == v)) [ inl s ↦ rw s (omega arith) | inr f ↦ rw f rest ])
      | inr g ↦ rw g (elim (cases_Bool (p.owner == v)) [ inl s ↦ rw s (omega arith) | inr f ↦ rw f rest ])
    ]

-- paths of so many owners, at most so many each
bounded : (m : ℕ) (paths : List PermittedPath) → All (IsOwned (suc m)) paths → ((v : ℕ) → path_count paths v ≤ MOST_PATHS) → length paths ≤ MOST_PATHS * m
bounded zero [] all few = omega arith
bounded zero (p ∷ paths) all few = let here = All-head (IsOwned 1) p paths all in let low = here.0 in let high = here.1 in absurd (omega arith)
bounded (suc m) paths all few =
    let rest = bounded m (others (suc m) paths) (others_below m paths all) (λ v. let less = count_others (suc m) v paths in let most = few v in omega arith) in
    let split = length-filter_both (owned (suc m)) (λ p. not (owned (suc m) p)) (λ p. refl) paths in
    let most = few (suc m) in
    omega arith

pub few_permitted : (net : Net) → IsNet net → length net.permitted ≤ MOST_PATHS * (MOST_ROUTERS - 1)
few_permitted net h =
    let all = are_listed net h in
    let n = nodes_within net.nodes h.nodes in
    let e : net.nodes ≡ suc (net.nodes - 1) = let some = n.0 in omega arith in
    let most = bounded (net.nodes - 1) net.permitted (subst (λ k. All (IsOwned k) net.permitted) e all.owners) all.few in
    let high = n.1 in
    omega arith

-- ---- whether a path was given before

given_at : (net : Net) (p : PermittedPath) (k : ℕ) → IsNet net → begins_at p.nodes p.owner ≡ true → k < length net.permitted → (get_or net.permitted k p).nodes ≡ p.nodes
    → is_given net.permitted p.owner p.nodes ≡ true
given_at net p k h begins below e =
    let l = get_or net.permitted k p in
    let owns : begins_at l.nodes l.owner ≡ true = (are_listed net h).begin k p below in
    let ours : begins_at l.nodes p.owner ≡ true = subst (λ (ns : List ℕ). begins_at ns p.owner ≡ true) (sym e) begins in
    let owner : (l.owner == p.owner) ≡ true = sym (begins_owner l.nodes l.owner p.owner owns) ∙ ours in
    let same : same_path l.nodes p.nodes ≡ true = subst (λ (ns : List ℕ). same_path l.nodes ns ≡ true) e (same_path_self l.nodes) in
    list_any_at (λ q. q.owner == p.owner && same_path q.nodes p.nodes) net.permitted k p below (and_from (l.owner == p.owner) (same_path l.nodes p.nodes) owner same)

found_given : (net : Net) (p : PermittedPath) (n : ℕ) → IsNet net → 0 < p.owner → begins_at p.nodes p.owner ≡ true → IsPath net (no n) → path net (no n) ≡ p.nodes
    → is_given net.permitted p.owner p.nodes ≡ true
found_given net p zero h some begins is e =
    let b : begins_at [] p.owner ≡ true = subst (λ (ns : List ℕ). begins_at ns p.owner ≡ true) (sym e ∙ path-empty net (no 0) refl) begins in absurd (cc)
found_given net p (suc zero) h some begins is e =
    let b : (0 == p.owner) ≡ true = subst (λ (ns : List ℕ). begins_at ns p.owner ≡ true) (sym e ∙ path-origin net (no 1) refl) begins in
    let z = eqb-true 0 p.owner b in absurd (omega arith)
found_given net p (suc (suc k)) h some begins is e =
    let n = length-paths net in
    let below : k < length net.permitted = omega arith in
    given_at net p k h begins below (sym (index-map net.permitted k p below) ∙ (sym (path-given net (no (suc (suc k))) k refl) ∙ e))

given_found : (net : Net) (p : PermittedPath) (o : Option PathNo) → ((q : PathNo) → IsPath net q → path net q ≡ p.nodes → o ≡ Some q) → is_given net.permitted p.owner p.nodes ≡ true → is_some o ≡ true
given_found net p o only t =
    let a = Any-from_list_any (λ q. q.owner == p.owner && same_path q.nodes p.nodes) net.permitted t in
    let k = a.0 in
    let l = a.1 in
    let n = length-paths net in
    let same = same_path_is l.nodes p.nodes (and_parts (l.owner == p.owner) (same_path l.nodes p.nodes) a.4).1 in
    let e : path net (no (suc (suc k))) ≡ p.nodes =
    path-given net (no (suc (suc k))) k refl ∙ (index-map net.permitted k l a.2 ∙ (ap (λ (q : PermittedPath). q.nodes) a.3 ∙ same)) in
    ap is_some (only (no (suc (suc k))) (let low = a.2 in omega arith) e)

-- a path was given before exactly where it has a number
pub given_where_numbered : (net : Net) (p : PermittedPath) (o : Option PathNo) → IsNet net → 0 < p.owner → begins_at p.nodes p.owner ≡ true
    → IfSome o (λ q. IsPath net q × (path net q ≡ p.nodes)) → ((q : PathNo) → IsPath net q → path net q ≡ p.nodes → o ≡ Some q)
    → is_some o ≡ is_given net.permitted p.owner p.nodes
given_where_numbered net p None h some begins found only = same_truth _ _ (λ t. absurd (cc)) (λ t. given_found net p None only t)
given_where_numbered net p (Some q) h some begins found only = sym (found_given net p q.0 h some begins found.0 found.1)
