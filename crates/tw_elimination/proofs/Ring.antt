-- The walk from best path to best path comes round, and what it goes round is a dispute wheel.
use Rattle.std.proofs.Common.{◌≡◌, ℕ, suc, zero, ◌+◌, ◌-◌, ◌<◌, ◌≤◌, ◌==◌, true, false, not, ◌&&◌, List, [], ◌∷◌, ◌++◌, drop, filter, get_or, length, length-drop, map, take, append_assoc, append-nil, Some, refl, ap, sym, ◌∙◌, subst, ◌⊎◌, inl, inr, arith, nat_lt, if◌then◌else◌}
use Rattle.std.specs.List.{All, list_any, prefix_len, range_with_len, zip}
use Rattle.std.proofs.lemmas.Bool.{cases_Bool, cases_eq, cases_lt, and_parts, both_ways, eq-eqb, eqb-true, false≢true, lt-ltb, ltb-true, ne_eqb, not-true, not_from_false}
use Rattle.std.proofs.lemmas.List.{map-append, take_all}
use Rattle.std.proofs.lemmas.List.FromFn.{length-range_with_len}
use Rattle.tw_event.specs.declared.event.PathNo.{PathNo}
use Rattle.tw_model.specs.Net.{IsPath, Net, begins_at, empty_path, hops_of, is_own, origin_path, path, paths, same_path}
use Rattle.tw_model.specs.Rules.{IsNet}
use Rattle.tw_model.specs.State.{State, bars}
use Rattle.tw_model.proofs.Paths.{own_is_path, path_empty, path_origin, same_path_is}
use Rattle.tw_sim.proofs.Members.{In, all_from_in, any_from_in, in_append, in_filtered, in_from_all, in_from_any, in_get_or, in_or_default, range_has}
use Rattle.tw_policy.specs.DisputeWheel.{AreDisputed, IsDisputed, LeadsTo, Pivot, hop, hops, is_among, is_no_worse}
use Rattle.tw_policy.specs.Left.{IsHalted, allows, follows, is_covered, is_given, remaining}
use Rattle.tw_policy.specs.Search.{first_of, has_choice}
use Rattle.tw_policy.proofs.Rim.{without}
use Rattle.tw_policy.proofs.Stuck as stuck
use Rattle.tw_policy.proofs.Stuck.{IsSpoke}
use Rattle.tw_elimination.specs.declared.wheel.Pivot.{Pivot as Told}
use Rattle.tw_elimination.specs.Wheel.{AreWheel, after_pivots, first_node, next_pivot, number_of, pivot_of, pivots_to, ring_of, spoke_nodes}
use Rattle.tw_elimination.proofs.PathNumbers.{number_is}

-- ---- a walk among so many comes to one of them a second time

pub record Repeats (f : ℕ → ℕ) (n : ℕ) : Type 0 where
  pub first : ℕ
  pub second : ℕ
  pub before : first < second
  pub within : second ≤ n
  pub same : f first ≡ f second

repeats_from : (f : ℕ → ℕ) (m k : ℕ) (unseen : List ℕ) → length unseen ≤ m → ((a : ℕ) → In (f a) unseen ⊎ ((b : ℕ) × (b < k) × (f b ≡ f a))) → Repeats f (k + m)
repeats_from f zero k unseen few each =
    elim (each k) [
      | inr seen ↦ (let low = seen.1 in record { first = seen.0; second = k; before = low; within = omega arith; same = seen.2 })
      | inl new ↦ (let less = without (f k) unseen new in absurd (omega arith))
    ]
repeats_from f (suc m) k unseen few each =
    elim (each k) [
      | inr seen ↦ (let low = seen.1 in record { first = seen.0; second = k; before = low; within = omega arith; same = seen.2 })
      | inl new ↦ (
          let less = without (f k) unseen new in
          let more = repeats_from f m (suc k) (filter (λ x. not (x == f k)) unseen) (omega arith) (λ a. elim (cases_eq (f a) (f k)) [
            | inl e ↦ inr (k, omega arith, sym e)
            | inr d ↦ elim (each a) [
              | inl i ↦ inl (in_filtered (λ x. not (x == f k)) (f a) unseen (not_from_false (f a == f k) (ne_eqb (f a) (f k) d)) i)
              | inr seen ↦ (let low = seen.1 in inr (seen.0, omega arith, seen.2))
            ]
          ]) in
          let low = more.within in
          record { first = more.first; second = more.second; before = more.before; within = omega arith; same = more.same })
    ]

pub repeats : (f : ℕ → ℕ) (n : ℕ) → ((a : ℕ) → f a < n) → Repeats f n
repeats f n below =
    let long : length (range_with_len 0 n) ≤ n = range_long n in
    subst (Repeats f) (none_more n) (repeats_from f n 0 (range_with_len 0 n) long (λ a. let low = below a in inl (range_has (f a) 0 n (omega arith) (omega arith)))) where
      none_more : (n : ℕ) → 0 + n ≡ n
      none_more n = omega arith

      range_long : (n : ℕ) → length (range_with_len 0 n) ≤ n
      range_long n = let same = length-range_with_len 0 n in omega arith

pub one_more : (n : ℕ) → 1 + n ≡ suc n
one_more n = omega arith

pub begins : (nodes : List ℕ) (v : ℕ) → begins_at nodes v ≡ true → first_node nodes ≡ v
begins [] v h = absurd (false≢true h)
begins (x ∷ nodes) v h = eqb-true x v h

module _ (net : Net) (net_is : IsNet net) (states : ℕ → State) (own : (v : ℕ) (q : PathNo) → In q (states v).order → is_own net v q ≡ true)
    (left : ℕ → List PathNo) (halt : IsHalted net states left)
    (lists : ℕ → List PathNo) (same : (v : ℕ) → v < net.nodes → lists v ≡ left v) (past : (v : ℕ) → net.nodes ≤ v → lists v ≡ []) where
  abbrev best : ℕ → PathNo
  best v = stuck.best_left net states left halt v

  abbrev AtSpoke : ℕ → PathNo → Type 0
  AtSpoke v s = IsSpoke net states left halt v s

  chooses : (v : ℕ) → has_choice lists v ≡ true → (v < net.nodes) × (1 < length (left v))
  chooses v h =
      elim (cases_lt v net.nodes) [
        | inl low ↦ (low, ltb-true 1 (length (left v)) (subst (λ xs. nat_lt 1 (length xs) ≡ true) (same v low) h))
        | inr high ↦ absurd (false≢true (subst (λ xs. nat_lt 1 (length xs) ≡ true) (past v high) h))
      ]

  has : (v : ℕ) → v < net.nodes → 1 < length (left v) → has_choice lists v ≡ true
  has v low choice = subst (λ xs. nat_lt 1 (length xs) ≡ true) (sym (same v low)) (lt-ltb 1 (length (left v)) choice)

  -- ---- one hop along a path that is left

  -- a path that a router has left begins there
  owned : (w : ℕ) (q : PathNo) → In q (left w) → (q.0 == 0) ≡ false → is_own net w q ≡ true
  owned w q i some =
      elim (cases_Bool (w == 0)) [
        | inl b ↦ (
            let zero_is : w ≡ 0 = eqb-true w 0 b in
            let there : In q (origin_path ∷ []) = subst (In q) (ap left zero_is ∙ halt 0) i in
            elim there [
              | inl e ↦ (
                  let nodes : path net q ≡ 0 ∷ [] = ap (path net) e ∙ path_origin net in
                  subst (λ z. begins_at (path net q) z ≡ true) (sym zero_is) (subst (λ p. begins_at p 0 ≡ true) (sym nodes) refl))
              | inr none ↦ absurd none
            ])
        | inr b ↦ own w q (stuck.in_order net states left w [] (states w).order q some (subst (In q) (stuck.halted net states left halt w b) i))
      ]

  -- and a neighbour gives it
  given_in : (v : ℕ) (better order : List PathNo) (q : PathNo) → (q.0 == 0) ≡ false → In q (remaining net states left v better order) → is_given net states left v q ≡ true
  given_in v better [] q some i =
      elim (cases_Bool (is_covered net states left v better)) [
        | inl b ↦ absurd (rw b at i)
        | inr b ↦ (
            let one : In q (empty_path ∷ []) = rw b at i in
            elim one [ inl e ↦ absurd (both_ways (q.0 == 0) some (ap (λ z. z.0 == 0) e)) | inr none ↦ absurd none ])
      ]
  given_in v better (x ∷ order) q some i =
      elim (cases_Bool (is_given net states left v x && not (is_covered net states left v better))) [
        | inl b ↦ (
            let there : In q (x ∷ remaining net states left v (better ++ x ∷ []) order) = rw b at i in
            elim there [
              | inl e ↦ subst (λ z. is_given net states left v z ≡ true) (sym e) (and_parts (is_given net states left v x) (not (is_covered net states left v better)) b).0
              | inr k ↦ given_in v (better ++ x ∷ []) order q some k
            ])
        | inr b ↦ given_in v (better ++ x ∷ []) order q some (rw b at i)
      ]

  record IsHop (v : ℕ) (q : PathNo) : Type 0 where
    pub router : ℕ
    pub rest : PathNo
    pub there : In rest (left router)
    pub some : (rest.0 == 0) ≡ false
    pub ranks : is_among q (states v).order ≡ true
    pub nodes : path net q ≡ v ∷ path net rest

  one_hop : (v : ℕ) (q : PathNo) → 1 < length (left v) → In q (left v) → (q.0 == 0) ≡ false → IsHop v q
  one_hop v q choice i some =
      let other = stuck.not_origin net states left halt v choice in
      let here = subst (In q) (stuck.halted net states left halt v other) i in
      let ranked = stuck.in_order net states left v [] (states v).order q some here in
      let rows = zip (hops_of net v) (states v).rows in
      let found = in_from_any (λ p. p.1.up && list_any (allows net states v q) (left p.0.peer)) rows (given_in v [] (states v).order q some here) in
      let p = found.0 in
      let met = and_parts p.1.up (list_any (allows net states v q) (left p.0.peer)) found.1 in
      let heard = in_from_any (allows net states v q) (left p.0.peer) met.1 in
      let r = heard.0 in
      let parts = and_parts (not (bars net v (states v).barred q)) (follows net states v q r) heard.1 in
      let on = and_parts (not (r.0 == 0)) (same_path (path net q) (v ∷ path net r)) parts.1 in
      record {
        router = p.0.peer;
        rest = r;
        there = heard.2;
        some = not-true (r.0 == 0) on.0;
        ranks = any_from_in (λ x. q.0 == x.0) q (states v).order (eq-eqb q.0 q.0 refl) ranked;
        nodes = same_path_is (path net q) (v ∷ path net r) on.1;
      }

  -- ---- along a path, as long as routers have a choice

  record IsAlong (q : PathNo) (k : ℕ) : Type 0 where
    pub router : ℕ
    pub spoke : PathNo
    pub is : AtSpoke router spoke
    pub leads : LeadsTo net states q spoke
    pub nodes : drop k (path net q) ≡ path net spoke

  along : (nodes : List ℕ) (v : ℕ) (q : PathNo) → 1 < length (left v) → In q (left v) → (q.0 == 0) ≡ false → path net q ≡ v ∷ nodes
      → (prefix_len (has_choice lists) nodes ≡ 0) ⊎ IsAlong q (prefix_len (has_choice lists) nodes)
  along [] v q choice i some parts = inl refl
  along (w ∷ rest) v q choice i some parts =
      elim (cases_Bool (has_choice lists w)) [
        | inr b ↦ inl (rw b refl)
        | inl b ↦ (
            let c = chooses w b in
            let h = one_hop v q choice i some in
            let rests : path net h.rest ≡ w ∷ rest = (let both : v ∷ path net h.rest ≡ v ∷ w ∷ rest = sym h.nodes ∙ parts in ap (drop 1) both) in
            let at : w ≡ h.router = ap first_node (sym rests) ∙ begins (path net h.rest) h.router (owned h.router h.rest h.there h.some) in
            let there : In h.rest (left w) = subst (λ z. In h.rest (left z)) (sym at) h.there in
            let one : prefix_len (has_choice lists) (w ∷ rest) ≡ suc (prefix_len (has_choice lists) rest) = rw b (one_more (prefix_len (has_choice lists) rest)) in
            elim (along rest w h.rest c.1 there h.some rests) [
              | inl none ↦ inr (record {
                router = w;
                spoke = h.rest;
                is = record { within = c.0; choice = c.1; there = there; some = h.some };
                leads = hop v q h.rest h.ranks h.nodes;
                nodes = ap (λ k. drop k (path net q)) (one ∙ ap suc none) ∙ ap (drop 1) h.nodes;
              })
              | inr more ↦ inr (record {
                router = more.router;
                spoke = more.spoke;
                is = more.is;
                leads = hops v q h.rest more.spoke h.ranks h.nodes more.leads;
                nodes = ap (λ k. drop k (path net q)) one ∙ (ap (drop (suc (prefix_len (has_choice lists) rest))) h.nodes ∙ more.nodes);
              })
            ])
      ]

  -- ---- the next pivot

  -- the pivot stands at a spoke, with the best path of its router
  record IsAt (p : Pivot) : Type 0 where
    pub is : AtSpoke p.router p.spoke
    pub rim : p.rim ≡ best p.router

  record IsNext (v : ℕ) (p : Pivot) : Type 0 where
    pub at : IsAt p
    pub leads : LeadsTo net states (best v) p.spoke

  first_best : (v : ℕ) → v < net.nodes → first_of lists v ≡ best v
  first_best v low = ap (λ xs. get_or xs 0 empty_path) (same v low)

  -- how the best path of a router with a choice leads on
  best_along : (v : ℕ) → (low : v < net.nodes) → (choice : 1 < length (left v)) → IsAlong (best v) (prefix_len (has_choice lists) (drop 1 (path net (best v))))
  best_along v low choice =
      let g = stuck.giver net states left halt v choice in
      let some : ((best v).0 == 0) ≡ false = (elim (cases_Bool ((best v).0 == 0)) [
        | inr b ↦ b
        | inl b ↦ (
            let none : path net (best v) ≡ [] = ap (λ (k : ℕ). path net (record { 0 = k })) (eqb-true (best v).0 0 b) ∙ path_empty net in
            let both : [] ≡ v ∷ path net g.spoke = sym none ∙ g.nodes in
            absurd (cc))
      ]) in
      let there : In (best v) (left v) = in_get_or (left v) 0 empty_path (omega arith) in
      let rests : drop 1 (path net (best v)) ≡ path net g.spoke = ap (drop 1) g.nodes in
      let first : has_choice lists (first_node (path net g.spoke)) ≡ true
      = subst (λ w. has_choice lists w ≡ true) (sym (begins (path net g.spoke) g.router (owned g.router g.spoke g.is.there g.is.some))) (has g.router g.is.within g.is.choice) in
      subst (λ nodes. IsAlong (best v) (prefix_len (has_choice lists) nodes)) (sym rests)
      (elim (along (path net g.spoke) v (best v) choice there some g.nodes) [
        | inr a ↦ a
        | inl none ↦ absurd (goes (path net g.spoke) g.router (owned g.router g.spoke g.is.there g.is.some) first none)
      ]) where
        goes : (nodes : List ℕ) (w : ℕ) → begins_at nodes w ≡ true → has_choice lists (first_node nodes) ≡ true → prefix_len (has_choice lists) nodes ≡ 0 → ⊥
        goes [] w h first none = false≢true h
        goes (x ∷ nodes) w h first none = let some : 1 + prefix_len (has_choice lists) nodes ≡ 0 = rw first at none in absurd (omega (arith, some))

  abbrev made : List ℕ → Pivot
  made nodes = let w = first_node nodes in record { router = w; spoke = number_of net nodes; rim = first_of lists w }

  next_is : (v : ℕ) → has_choice lists v ≡ true → IsNext v (next_pivot net lists v)
  next_is v h =
      let c = chooses v h in
      let a = best_along v c.0 c.1 in
      let nodes : spoke_nodes net lists v ≡ path net a.spoke
      = ap (λ q. drop (prefix_len (has_choice lists) (drop 1 (path net q))) (path net q)) (first_best v c.0) ∙ a.nodes in
      let router : first_node (path net a.spoke) ≡ a.router = begins (path net a.spoke) a.router (owned a.router a.spoke a.is.there a.is.some) in
      let spoke : number_of net (path net a.spoke) ≡ a.spoke = number_is net net_is a.spoke (own_is_path net a.router a.spoke (owned a.router a.spoke a.is.there a.is.some)).0 in
      let p : Pivot = record { router = a.router; spoke = a.spoke; rim = best a.router } in
      let same_pivot : p ≡ next_pivot net lists v
      = sym (ap made nodes ∙ (ap (λ s. record { router = first_node (path net a.spoke); spoke = s; rim = first_of lists (first_node (path net a.spoke)) }) spoke
      ∙ (ap (λ w. record { router = w; spoke = a.spoke; rim = first_of lists w }) router
      ∙ ap (λ r. record { router = a.router; spoke = a.spoke; rim = r }) (first_best a.router a.is.within)))) in
      subst (IsNext v) same_pivot (record { at = record { is = a.is; rim = refl }; leads = a.leads })

  -- ---- the walk

  reached : (n v : ℕ) → has_choice lists v ≡ true → has_choice lists (after_pivots net lists n v) ≡ true
  reached zero v h = h
  reached (suc n) v h = let next = next_is (after_pivots net lists n v) (reached n v h) in has (next_pivot net lists (after_pivots net lists n v)).router next.at.is.within next.at.is.choice

  after_more : (i j v : ℕ) → after_pivots net lists (i + j) v ≡ after_pivots net lists j (after_pivots net lists i v)
  after_more i zero v = ap (λ n. after_pivots net lists n v) (sum_zero i) where
    sum_zero : (n : ℕ) → n + 0 ≡ n
    sum_zero n = omega arith
  after_more i (suc j) v = ap (λ n. after_pivots net lists n v) (sum_suc i j) ∙ ap (λ w. (next_pivot net lists w).router) (after_more i j v) where
    sum_suc : (n k : ℕ) → n + suc k ≡ suc (n + k)
    sum_suc n k = omega arith

  after_first : (j v : ℕ) → after_pivots net lists (suc j) v ≡ after_pivots net lists j (next_pivot net lists v).router
  after_first j v = ap (λ n. after_pivots net lists n v) (sym (one_more j)) ∙ after_more 1 j v

  -- after as many steps as there are routers it is where it comes back to
  comes_back : (v : ℕ) → has_choice lists v ≡ true
      → (j : ℕ) × (j ≤ net.nodes) × (after_pivots net lists j (next_pivot net lists (after_pivots net lists net.nodes v)).router ≡ after_pivots net lists net.nodes v)
  comes_back v h =
      let f : ℕ → ℕ = λ n. after_pivots net lists n v in
      let r = repeats f net.nodes (λ a. (chooses (f a) (reached a v h)).0) in
      let before = r.before in
      let within = r.within in
      let last = f net.nodes in
      let e = net.nodes - r.second in
      let d = r.second - r.first in
      let j = d - 1 in
      let at_last : last ≡ f (r.first + e)
      = ap f (sums net.nodes r.second within) ∙ (after_more r.second e v ∙ (ap (after_pivots net lists e) (sym r.same) ∙ sym (after_more r.first e v))) in
      let round : after_pivots net lists d last ≡ last
      = ap (after_pivots net lists d) at_last ∙ (sym (after_more (r.first + e) d v) ∙ ap f (back net.nodes r.first r.second before within)) in
      (j, omega arith, sym (after_first j last) ∙ (ap (λ n. after_pivots net lists n last) (less d (omega arith)) ∙ round)) where
        sums : (n k : ℕ) → k ≤ n → n ≡ k + (n - k)
        sums n k low = omega arith

        back : (n i k : ℕ) → i < k → k ≤ n → (i + (n - k)) + (k - i) ≡ n
        back n i k low high = omega arith

        less : (d : ℕ) → 0 < d → suc (d - 1) ≡ d
        less d some = omega arith

  -- ---- the ring

  disputed : (p b : Pivot) → IsAt p → LeadsTo net states (best p.router) b.spoke → IsDisputed net states p b
  disputed p b at leads = record {
    ranked = subst (λ q. is_no_worse q p.spoke (states p.router).order ≡ true) (sym at.rim) (stuck.ranked net states left halt p.router p.spoke at.is);
    leads = subst (λ q. LeadsTo net states q b.spoke) (sym at.rim) leads;
  }

  round : (n last : ℕ) (p b : Pivot) → IsAt p → (j : ℕ) → j ≤ n → after_pivots net lists j p.router ≡ last → LeadsTo net states (best last) b.spoke
      → AreDisputed net states p (pivots_to net lists n last p ++ b ∷ [])
  round zero last p b at zero few comes leads = (disputed p b at (subst (λ w. LeadsTo net states (best w) b.spoke) (sym comes) leads), tt)
  round zero last p b at (suc j) few comes leads = absurd (omega arith)
  round (suc n) last p b at zero few comes leads =
      rw (eq-eqb p.router last comes) (disputed p b at (subst (λ w. LeadsTo net states (best w) b.spoke) (sym comes) leads), tt)
  round (suc n) last p b at (suc i) few comes leads =
      elim (cases_Bool (p.router == last)) [
        | inl e ↦ rw e (disputed p b at (subst (λ w. LeadsTo net states (best w) b.spoke) (sym (eqb-true p.router last e)) leads), tt)
        | inr d ↦ (
            let next = next_is p.router (has p.router at.is.within at.is.choice) in
            rw d (
              disputed p (next_pivot net lists p.router) at next.leads,
              round n last (next_pivot net lists p.router) b next.at i (omega arith) (sym (after_first i p.router) ∙ comes) leads,
            ))
      ]

  -- the ring to which a router with a choice leads is a dispute wheel
  pub ring_wheel : (v : ℕ) → has_choice lists v ≡ true → AreWheel net states (ring_of net lists (Some v))
  ring_wheel v h =
      let last = after_pivots net lists net.nodes v in
      let next = next_is last (reached net.nodes v h) in
      let back = comes_back v h in
      round net.nodes last (next_pivot net lists last) (next_pivot net lists last) next.at back.0 back.1 back.2 next.leads

-- ---- the ring pivot by pivot

module _ (net : Net) (left : ℕ → List PathNo) (last : ℕ) where
  -- behind the last pivot there is none
  pivots_end : (n : ℕ) (p : Pivot) → p.router ≡ last → pivots_to net left n last p ≡ []
  pivots_end zero p at = refl
  pivots_end (suc n) p at = rw (eq-eqb p.router last at) refl

  pub ring_end : (n : ℕ) (p : Pivot) (pivots whole : List Pivot) → p.router ≡ last → pivots ++ pivots_to net left n last p ≡ whole → pivots ≡ whole
  ring_end n p pivots whole at before = sym (append-nil pivots) ∙ (ap (λ ps. pivots ++ ps) (sym (pivots_end n p at)) ∙ before)

  -- one pivot more
  pub ring_more : (nodes k : ℕ) (p : Pivot) (old new : List Told) (t : Told) (whole : List Pivot) → k < nodes → (p.router ≡ last → ⊥) → new ≡ old ++ t ∷ []
      → pivot_of t ≡ next_pivot net left p.router → map pivot_of old ++ pivots_to net left (nodes - k) last p ≡ whole
      → map pivot_of new ++ pivots_to net left (nodes - (k + 1)) last (pivot_of t) ≡ whole
  ring_more nodes k p old new t whole low apart pushed is before =
      let less : nodes - k ≡ suc (nodes - (k + 1)) = omega arith in
      let goes : pivots_to net left (nodes - k) last p ≡ pivot_of t ∷ pivots_to net left (nodes - (k + 1)) last (pivot_of t)
      = ap (λ n. pivots_to net left n last p) less
      ∙ (ap (λ b. if b then [] else next_pivot net left p.router ∷ pivots_to net left (nodes - (k + 1)) last (next_pivot net left p.router)) (ne_eqb p.router last apart)
      ∙ ap (λ q. q ∷ pivots_to net left (nodes - (k + 1)) last q) (sym is)) in
      let pivots : map pivot_of new ≡ map pivot_of old ++ pivot_of t ∷ [] = ap (map pivot_of) pushed ∙ map-append pivot_of old (t ∷ []) in
      ap (λ ps. ps ++ pivots_to net left (nodes - (k + 1)) last (pivot_of t)) pivots
      ∙ (append_assoc (map pivot_of old) (pivot_of t ∷ []) (pivots_to net left (nodes - (k + 1)) last (pivot_of t)) ∙ (ap (λ ps. map pivot_of old ++ ps) (sym goes) ∙ before))

-- what holds of all holds of one more
pub all_more : {X : Type 0} (P : X → Type 0) (old new : List X) (x : X) → new ≡ old ++ x ∷ [] → All P old → P x → All P new
all_more P old new x pushed all here =
    subst (All P) (sym pushed) (all_from_in P (old ++ x ∷ []) (λ y i. elim (in_append y old (x ∷ []) i) [
      | inl k ↦ in_from_all P old all y k
      | inr k ↦ elim k [ inl e ↦ subst P (sym e) here | inr none ↦ absurd none ]
    ]))

-- the paths of a list behind a place
pub rest_is : (nodes : List ℕ) (k : ℕ) → k ≤ length nodes → take (length nodes - k) (drop k nodes) ≡ drop k nodes
rest_is nodes k low = take_all (length nodes - k) (drop k nodes) (omega (arith, length-drop k nodes))

-- the best path that a router has left is a path
pub best_path : (net : Net) (left : ℕ → List PathNo) (v : ℕ) → All (IsPath net) (left v) → IsPath net (first_of left v)
best_path net left v all =
    elim (in_or_default empty_path (left v) 0) [
      | inl e ↦ subst (IsPath net) (sym e) (omega arith)
      | inr i ↦ in_from_all (IsPath net) (left v) all (first_of left v) i
    ]
