-- Paths that are put into the list one by one, by a work list of routers.
use Rattle.std.proofs.Common.{◌≡◌, ℕ, suc, zero, ◌+◌, ◌-◌, ◌<◌, ◌≤◌, ◌==◌, true, false, not, ◌&&◌, List, [], ◌∷◌, ◌++◌, drop, get_or, length, map, set, take, refl, ap, sym, ◌∙◌, subst, ◌⊎◌, inl, inr, arith, nat_lt, if◌then◌else◌}
use Rattle.std.specs.List.{All, range_with_len}
use Rattle.std.specs.Prelude.{slice_get}
use Rattle.std.proofs.lemmas.Bool.{cases_Bool, cases_eq, cases_lt, and_from, and_parts, both_ways, eq-eqb, eqb-true, false≢true, lt-ltb, ltb-false, ltb-true, not-false, or_parts}
use Rattle.std.proofs.lemmas.List.{get_or-set_other, get_or-set_same, length-append}
use Rattle.std.proofs.lemmas.List.FromFn.{get_or-map-range_with_len}
use Rattle.std.proofs.lemmas.Option.{slice_get-get_or}
use Rattle.tw_event.specs.declared.event.PathNo.{PathNo}
use Rattle.tw_model.specs.declared.net.Link.{Link}
use Rattle.tw_model.specs.declared.rule.Rule.TheVariants.{PathNoLink}
use Rattle.tw_model.specs.Net.{Net, begins_at, empty_path, hops_of, path, paths, paths_of}
use Rattle.tw_model.specs.PermittedPath.{PermittedPath}
use Rattle.tw_model.specs.Rules.{IsNet, PathsFollow, is_linked, leaves_links, path_breaks}
use Rattle.tw_model.specs.State.{has_peer, hop, line_of, slot}
use Rattle.tw_model.proofs.Nets.{has_peer_linked, hop_in_hops, hop_slot, linked_back}
use Rattle.tw_model.proofs.Paths.{in_paths_of, path_some}
use Rattle.tw_model.proofs.Unbroken.{none_broken}
use Rattle.tw_sim.proofs.Members.{In, all_from_in, any_from_in, in_append, in_from_all, in_from_any, in_get_or, in_left, in_right, range_has}
use Rattle.tw_elimination.specs.Placing.{GoesOnNext, IsNextToPlace, PlacesNothing, are_placed, count_of, counts_after, has_one_list, has_router, may_follow, next_count}
use Rattle.tw_elimination.specs.Wheel.{first_node, number_of}
use Rattle.tw_elimination.proofs.Complete.{halt_from, more_or_same, number_found, paths_few, sum_of}
use Rattle.tw_elimination.proofs.Listing.{at_place, count_first, count_past, grows, halts_with, step}
use Rattle.tw_elimination.proofs.Rounds.{all_same}

-- how many paths are still to be put into the list
abbrev pub left_to_place : Net → List ℕ → ℕ
left_to_place net placed = sum_of (λ v. length (paths_of net v) - count_of net placed v) (range_with_len 0 net.nodes)

-- ---- the first two nodes of a path are neighbours

linked_at : (nodes : ℕ) (links : List Link) (before paths : List PermittedPath) (k v w : ℕ) (rest : List ℕ)
    → PathsFollow (record { nodes = nodes; links = links; permitted = before }) paths → get_or (map (λ l. l.nodes) paths) k [] ≡ v ∷ w ∷ rest → is_linked links v w ≡ true
linked_at nodes links before [] k v w rest h e = absurd (let none = ap length e in omega arith)
linked_at nodes links before (p ∷ paths) zero v w rest h e =
    let net : Net = record { nodes = nodes; links = links; permitted = before } in
    let kept : leaves_links links (v ∷ w ∷ rest) ≡ false = ap (leaves_links links) (sym e) ∙ none_broken (path_breaks net p) h.0 PathNoLink in
    not-false (is_linked links v w) (or_parts (not (is_linked links v w)) (leaves_links links (w ∷ rest)) kept).0
linked_at nodes links before (p ∷ paths) (suc k) v w rest h e = linked_at nodes links (before ++ p ∷ []) paths k v w rest h.1 e

path_linked : (net : Net) → IsNet net → (q : PathNo) (v w : ℕ) (rest : List ℕ) → path net q ≡ v ∷ w ∷ rest → is_linked net.links v w ≡ true
unfolding path
path_linked net is q v w rest e = at q.0 e where
  at : (k : ℕ) → get_or (paths net) k [] ≡ v ∷ w ∷ rest → is_linked net.links v w ≡ true
  at zero e = absurd (let none = ap length e in omega arith)
  at (suc zero) e = absurd (let none = ap length e in omega arith)
  at (suc (suc k)) e = linked_at net.nodes net.links [] net.permitted k v w rest is.permitted e

splits : (nodes : List ℕ) (v : ℕ) → begins_at nodes v ≡ true → nodes ≡ v ∷ drop 1 nodes
splits [] v b = absurd (false≢true b)
splits (x ∷ nodes) v b = ap (λ z. z ∷ drop 1 (x ∷ nodes)) (eqb-true x v b)

pub starts : (nodes : List ℕ) → (nodes ≡ [] → ⊥) → begins_at nodes (first_node nodes) ≡ true
starts [] some = absurd (some refl)
starts (x ∷ nodes) some = eq-eqb x x refl

pub take_whole : {X : Type 0} (n : ℕ) (xs : List X) → length xs ≤ n → take n xs ≡ xs
take_whole zero [] low = refl
take_whole zero (x ∷ xs) low = absurd (omega arith)
take_whole (suc n) [] low = refl
take_whole (suc n) (x ∷ xs) low = ap (λ ys. x ∷ ys) (take_whole n xs (omega arith))

-- what stands at a place within a list hangs on no default
pub same_there : (xs : List ℕ) (k d e : ℕ) → k < length xs → get_or xs k d ≡ get_or xs k e
same_there [] k d e within = absurd (omega arith)
same_there (x ∷ xs) zero d e within = refl
same_there (x ∷ xs) (suc k) d e within = same_there xs k d e (omega arith)

pub one_longer : {X : Type 0} (old new : List X) (x : X) → new ≡ old ++ x ∷ [] → length new ≡ length old + 1
one_longer old new x pushed = ap length pushed ∙ length-append old (x ∷ [])

pub range_one_more : (k : ℕ) (old new : List ℕ) → new ≡ old ++ k ∷ [] → old ≡ range_with_len 0 k → new ≡ range_with_len 0 (k + 1)
range_one_more k old new pushed before = pushed ∙ (ap (λ xs. xs ++ k ∷ []) before ∙ sym (range_grows 0 k k (omega arith))) where
  range_grows : (a n k : ℕ) → k ≡ a + n → range_with_len a (n + 1) ≡ range_with_len a n ++ k ∷ []
  range_grows a zero k e = ap (λ x. x ∷ []) (omega arith)
  range_grows a (suc n) k e = ap (range_with_len a) (shift n) ∙ ap (λ xs. a ∷ xs) (range_grows (a + 1) n k (omega arith)) where
    shift : (n : ℕ) → suc n + 1 ≡ suc (n + 1)
    shift n = omega arith

-- ---- routers at work

pub work_kept : (old new : List ℕ) (x : ℕ) → new ≡ old ++ x ∷ [] → (v : ℕ) → has_router old v ≡ true → has_router new v ≡ true
work_kept old new x pushed v h =
    let found = in_from_any (λ w. w == v) old h in
    subst (λ ws. has_router ws v ≡ true) (sym pushed) (any_from_in (λ w. w == v) found.0 (old ++ x ∷ []) found.1 (in_left found.0 old (x ∷ []) found.2))

pub work_has : (old new : List ℕ) (x : ℕ) → new ≡ old ++ x ∷ [] → has_router new x ≡ true
work_has old new x pushed =
    subst (λ ws. has_router ws x ≡ true) (sym pushed) (any_from_in (λ w. w == x) x (old ++ x ∷ []) (eq-eqb x x refl) (in_right x old (x ∷ []) (inl refl)))

pub work_popped : (old new : List ℕ) (x : ℕ) → old ≡ new ++ x ∷ [] → (v : ℕ) → has_router old v ≡ true → (has_router new v ≡ true) ⊎ (v ≡ x)
work_popped old new x popped v h =
    let found = in_from_any (λ w. w == v) (new ++ x ∷ []) (subst (λ ws. has_router ws v ≡ true) popped h) in
    elim (in_append found.0 new (x ∷ []) found.2) [
      | inl i ↦ inl (any_from_in (λ w. w == v) found.0 new found.1 i)
      | inr i ↦ elim i [ inl e ↦ inr (sym (eqb-true found.0 v found.1) ∙ e) | inr none ↦ absurd none ]
    ]

pub all_popped : (P : ℕ → Type 0) (old new : List ℕ) (x : ℕ) → old ≡ new ++ x ∷ [] → All P old → All P new × P x
all_popped P old new x popped all =
    let whole : All P (new ++ x ∷ []) = subst (All P) popped all in (
      all_from_in P new (λ y i. in_from_all P (new ++ x ∷ []) whole y (in_left y new (x ∷ []) i)),
      in_from_all P (new ++ x ∷ []) whole x (in_right x new (x ∷ []) (inl refl)),
    )

-- what waited still does where a router that can put no path there is let go
pub waits_less : (net : Net) (placed old new : List ℕ) (x : ℕ) → old ≡ new ++ x ∷ [] → PlacesNothing net placed x
    → ((v : ℕ) → v < net.nodes → (has_router old v ≡ true) ⊎ PlacesNothing net placed v) → (v : ℕ) → v < net.nodes → (has_router new v ≡ true) ⊎ PlacesNothing net placed v
waits_less net placed old new x popped stuck waits v low =
    elim (waits v low) [
      | inr s ↦ inr s
      | inl h ↦ elim (work_popped old new x popped v h) [
        | inl i ↦ inl i
        | inr e ↦ inr (subst (PlacesNothing net placed) (sym e) stuck)
      ]
    ]

-- where a pop gave nothing, nothing was left
pub nothing_left : (old new : List ℕ) (n : ℕ) → old ≡ new ++ [] → new ≡ take (n - 1) old → n ≡ 0 → old ≡ []
nothing_left old new n whole rest none = whole ∙ ap (λ xs. xs ++ []) (rest ∙ ap (λ k. take (k - 1) old) none)

pub none_waits : (net : Net) (placed work : List ℕ) → work ≡ [] → ((v : ℕ) → v < net.nodes → (has_router work v ≡ true) ⊎ PlacesNothing net placed v)
    → (v : ℕ) → v < net.nodes → PlacesNothing net placed v
none_waits net placed work none waits v low =
    elim (waits v low) [
      | inr s ↦ s
      | inl h ↦ absurd (false≢true (subst (λ ws. has_router ws v ≡ true) none h))
    ]

pub all_at_work : (v n : ℕ) → v < n → has_router (range_with_len 0 n) v ≡ true
all_at_work v n low = any_from_in (λ w. w == v) v (range_with_len 0 n) (eq-eqb v v refl) (range_has v 0 n (omega arith) (omega arith))

-- ---- what may follow

module _ (net : Net) (net_is : IsNet net) where
  -- where more paths stand in the list, no fewer may follow
  may_more : (one two : List ℕ) → ((v : ℕ) → count_of net one v ≤ count_of net two v) → (q : PathNo) → may_follow net one q ≡ true → may_follow net two q ≡ true
  may_more one two most q h =
      let r = number_of net (drop 1 (path net q)) in
      let w = first_node (path net r) in
      elim (cases_Bool (r.0 == 0)) [
        | inl b ↦ rw b refl
        | inr b ↦ (
            let low : nat_lt (line_of net w r) (count_of net one w) ≡ true = rw b at h in
            let less = ltb-true (line_of net w r) (count_of net one w) low in
            let more = most w in
            rw b (lt-ltb (line_of net w r) (count_of net two w) (omega arith)))
      ]

  -- a router whose next path may follow puts it there
  puts : (placed : List ℕ) (v : ℕ) → count_of net placed v < length (paths_of net v)
      → may_follow net placed (get_or (paths_of net v) (count_of net placed v) empty_path) ≡ true → next_count net placed v ≡ count_of net placed v + 1
  puts placed v low may =
      let k = count_of net placed v in
      ap (λ c. if c then k + 1 else k) (and_from (nat_lt k (length (paths_of net v))) (may_follow net placed (get_or (paths_of net v) k empty_path)) (lt-ltb k (length (paths_of net v)) low) may)

  abbrev counted : ℕ → ℕ → ℕ
  counted n v = count_of net (counts_after net n) v

  next_is : (n v : ℕ) → v < net.nodes → counted (suc n) v ≡ next_count net (counts_after net n) v
  next_is n v low = get_or-map-range_with_len (next_count net (counts_after net n)) 0 net.nodes v v 0 low (omega arith)

  -- where no router can put a path there, no round has put more there
  all_stuck : (placed : List ℕ) → ((v : ℕ) → v < net.nodes → PlacesNothing net placed v) → (n v : ℕ) → counted n v ≤ count_of net placed v
  all_stuck placed stuck zero v = let none = count_first net net_is v in omega arith
  all_stuck placed stuck (suc n) v =
      let before = all_stuck placed stuck n in
      let here = before v in
      elim (cases_lt v net.nodes) [
        | inr high ↦ (let none = count_past net net_is (suc n) v high in omega arith)
        | inl low ↦ elim (step net net_is n v) [
          | inl same ↦ omega arith
          | inr more ↦ elim (cases_lt (counted n v) (count_of net placed v)) [
            | inl less ↦ (let one = more.0 in omega arith)
            | inr high ↦ (
                let same : counted n v ≡ count_of net placed v = omega arith in
                let short : count_of net placed v < length (paths_of net v) = subst (λ k. k < length (paths_of net v)) same more.1 in
                let may : may_follow net placed (get_or (paths_of net v) (count_of net placed v) empty_path) ≡ true
                = subst (λ k. may_follow net placed (get_or (paths_of net v) k empty_path) ≡ true) same
                (may_more (counts_after net n) placed before (get_or (paths_of net v) (counted n v) empty_path) more.2) in
                let one = puts placed v short may in
                let none = stuck v low in
                absurd (omega arith))
          ]
        ]
      ]

  -- so all that can stand there does
  pub all_placed : (placed : List ℕ) → ((v : ℕ) → v < net.nodes → PlacesNothing net placed v) → (n : ℕ) → ((v : ℕ) → count_of net placed v ≤ counted n v)
      → are_placed net placed ≡ has_one_list net
  all_placed placed stuck n reached =
      let few = paths_few net in
      let halt = halt_from net net_is (length (paths net)) 0 (omega arith) in
      let k = halt.0 in
      let soon = halt.1 in
      let halted : (v : ℕ) → v < net.nodes → PlacesNothing net (counts_after net k) v = λ v low. sym (next_is k v low) ∙ ap (λ xs. get_or xs v 0) halt.2 in
      let same : (v : ℕ) → count_of net placed v ≡ counted k v = λ v.
      (let high = reached v in let most = all_stuck (counts_after net k) halted n v in let least = all_stuck placed stuck k v in omega arith) in
      all_same (λ v. count_of net placed v == length (paths_of net v)) (λ v. counted k v == length (paths_of net v)) (λ v. ap (λ m. m == length (paths_of net v)) (same v)) (range_with_len 0 net.nodes)
      ∙ halts_with net k (omega arith) halt.2

  -- ---- one path more

  module _ (placed : List ℕ) (v : ℕ) (q : PathNo) (within : v < length placed) (low : v < net.nodes) (next : IsNextToPlace net placed v q) where
    abbrev more : List ℕ
    more = set placed v (count_of net placed v + 1)

    here : count_of net more v ≡ count_of net placed v + 1
    here = get_or-set_same placed v (count_of net placed v + 1) 0 within

    others : (u : ℕ) → (u ≡ v → ⊥) → count_of net more u ≡ count_of net placed u
    others u apart = get_or-set_other placed v u (count_of net placed v + 1) 0 apart

    pub reached_more : (n : ℕ) → ((u : ℕ) → count_of net placed u ≤ counted n u) → (u : ℕ) → count_of net more u ≤ counted (suc n) u
    reached_more n most u =
        let high = most u in
        let grown = (grows net net_is n u).0 in
        elim (cases_eq u v) [
          | inr apart ↦ (let same = others u apart in omega arith)
          | inl e ↦ subst (λ z. count_of net more z ≤ counted (suc n) z) (sym e) (
              let one = here in
              let most_here = most v in
              let grown_here = (grows net net_is n v).0 in
              elim (cases_lt (count_of net placed v) (counted n v)) [
                | inl less ↦ omega arith
                | inr late ↦ (
                    let same : count_of net placed v ≡ counted n v = omega arith in
                    let may : may_follow net placed (get_or (paths_of net v) (count_of net placed v) empty_path) ≡ true
                    = subst (λ z. may_follow net placed z ≡ true) (sym next.1) next.2 in
                    let put = puts (counts_after net n) v (subst (λ k. k < length (paths_of net v)) same next.0)
                    (subst (λ k. may_follow net (counts_after net n) (get_or (paths_of net v) k empty_path) ≡ true) same
                    (may_more placed (counts_after net n) most (get_or (paths_of net v) (count_of net placed v) empty_path) may)) in
                    let is = next_is n v low in
                    omega arith)
              ])
        ]

    pub fewer_left : left_to_place net more < left_to_place net placed
    fewer_left =
        let after = λ (u : ℕ). length (paths_of net u) - count_of net more u in
        let before = λ (u : ℕ). length (paths_of net u) - count_of net placed u in
        let most : (u : ℕ) → after u ≤ before u = λ u.
        elim (cases_eq u v) [
          | inr apart ↦ (let same = others u apart in omega arith)
          | inl e ↦ subst (λ z. after z ≤ before z) (sym e) (let one = here in omega arith)
        ] in
        elim (more_or_same after before most (range_with_len 0 net.nodes)) [
          | inl less ↦ less
          | inr same ↦ (
              let is = same v (range_has v 0 net.nodes (omega arith) (omega arith)) in
              let one = here in
              let short = next.0 in
              absurd (omega arith))
        ]

    -- the path that now may follow goes on with the one that was put there
    follows_now : (x : PathNo) → may_follow net placed x ≡ false → may_follow net more x ≡ true → path net q ≡ drop 1 (path net x)
    follows_now x before now =
        let r = number_of net (drop 1 (path net x)) in
        let w = first_node (path net r) in
        let parts = or_parts (r.0 == 0) (nat_lt (line_of net w r) (count_of net placed w)) before in
        let low_now : nat_lt (line_of net w r) (count_of net more w) ≡ true = rw parts.0 at now in
        let less = ltb-true (line_of net w r) (count_of net more w) low_now in
        let late = ltb-false (line_of net w r) (count_of net placed w) parts.1 in
        let found = number_found net (drop 1 (path net x)) parts.0 in
        elim (cases_eq w v) [
          | inr apart ↦ (let same = others w apart in absurd (omega arith))
          | inl e ↦ (
              let some : path net r ≡ [] → ⊥ = λ none. both_ways (r.0 == 0) parts.0 (eq-eqb r.0 0 (path_some net net_is r found.0 none)) in
              let r_in : In r (paths_of net w) = (in_paths_of net w r).1 (found.0, starts (path net r) some) in
              let one = here in
              let last : count_of net more w ≡ count_of net placed w + 1 = subst (λ z. count_of net more z ≡ count_of net placed z + 1) (sym e) one in
              let line : line_of net w r ≡ count_of net placed w = omega arith in
              let there : get_or (paths_of net w) (count_of net placed w) empty_path ≡ r = ap (λ k. get_or (paths_of net w) k empty_path) (sym line) ∙ at_place r (paths_of net w) empty_path r_in in
              let mine : get_or (paths_of net w) (count_of net placed w) empty_path ≡ q = subst (λ z. get_or (paths_of net z) (count_of net placed z) empty_path ≡ q) (sym e) next.1 in
              ap (path net) (sym mine ∙ there) ∙ found.1)
        ]

    -- a router that could put no path there still can't, or waits for this one
    pub stuck_or_waits : (u : ℕ) → u < net.nodes → (u ≡ v → ⊥) → PlacesNothing net placed u → PlacesNothing net more u ⊎ (GoesOnNext net more q u × (has_peer net v u ≡ true))
    stuck_or_waits u below apart stuck =
        let k = count_of net placed u in
        let k_is : count_of net more u ≡ k = others u apart in
        let x = get_or (paths_of net u) k empty_path in
        elim (cases_Bool (nat_lt k (length (paths_of net u)) && may_follow net more x)) [
          | inr b ↦ inl (
              let now : (nat_lt (count_of net more u) (length (paths_of net u)) && may_follow net more (get_or (paths_of net u) (count_of net more u) empty_path)) ≡ false
              = subst (λ n. (nat_lt n (length (paths_of net u)) && may_follow net more (get_or (paths_of net u) n empty_path)) ≡ false) (sym k_is) b in
              ap (λ c. if c then count_of net more u + 1 else count_of net more u) now)
          | inl b ↦ (
              let parts = and_parts (nat_lt k (length (paths_of net u))) (may_follow net more x) b in
              let short = ltb-true k (length (paths_of net u)) parts.0 in
              elim (cases_Bool (may_follow net placed x)) [
                | inl c ↦ (let one = puts placed u short c in absurd (omega arith))
                | inr c ↦ (
                    let rest = follows_now x c parts.1 in
                    let x_in : In x (paths_of net u) = in_get_or (paths_of net u) k empty_path short in
                    let q_in : In q (paths_of net v) = subst (λ z. In z (paths_of net v)) next.1 (in_get_or (paths_of net v) (count_of net placed v) empty_path next.0) in
                    let nodes : path net x ≡ u ∷ path net q = splits (path net x) u ((in_paths_of net u x).0 x_in).1 ∙ ap (λ ns. u ∷ ns) (sym rest) in
                    let own : path net q ≡ v ∷ drop 1 (path net q) = splits (path net q) v ((in_paths_of net v q).0 q_in).1 in
                    let linked = path_linked net net_is x u v (drop 1 (path net q)) (nodes ∙ ap (λ ns. u ∷ ns) own) in
                    inr (
                      (x, ap (slice_get (paths_of net u)) k_is ∙ slice_get-get_or (paths_of net u) k empty_path short, nodes),
                      has_peer_linked net v u below (linked_back net.links v u ∙ linked),
                    ))
              ])
        ]

    -- who is at work once those are put back that wait for the path
    pub waits_more : (old rest mid new : List ℕ) → old ≡ rest ++ v ∷ [] → mid ≡ rest ++ v ∷ [] → ((u : ℕ) → has_router mid u ≡ true → has_router new u ≡ true)
        → All (λ h. GoesOnNext net more q h.peer → has_router new h.peer ≡ true) (hops_of net v) → ((u : ℕ) → u < net.nodes → (has_router old u ≡ true) ⊎ PlacesNothing net placed u)
        → (u : ℕ) → u < net.nodes → (has_router new u ≡ true) ⊎ PlacesNothing net more u
    waits_more old rest mid new popped pushed kept waiting waits u below =
        elim (cases_eq u v) [
          | inl e ↦ inl (subst (λ z. has_router new z ≡ true) (sym e) (kept v (work_has rest mid v pushed)))
          | inr apart ↦ elim (waits u below) [
            | inl h ↦ elim (work_popped old rest v popped u h) [
              | inl i ↦ inl (kept u (work_kept rest mid v pushed u i))
              | inr e ↦ absurd (apart e)
            ]
            | inr stuck ↦ elim (stuck_or_waits u below apart stuck) [
              | inl still ↦ inr still
              | inr on ↦ (
                  let h = hop net v (slot net v u) in
                  let peer : h.peer ≡ u = hop_slot net v u on.1 in
                  let there = hop_in_hops net v (slot net v u) (ltb-true (slot net v u) (length (hops_of net v)) on.1) in
                  let now = in_from_all (λ h. GoesOnNext net more q h.peer → has_router new h.peer ≡ true) (hops_of net v) waiting h there in
                  inl (subst (λ z. has_router new z ≡ true) peer (now (subst (GoesOnNext net more q) (sym peer) on.0))))
            ]
          ]
        ]
