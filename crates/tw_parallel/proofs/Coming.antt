-- Routers come to the shards of their workers, one by one.
use Rattle.std.proofs.Common.{◌≡◌, ℕ, zero, suc, ◌+◌, ◌-◌, ◌<◌, ◌≤◌, ◌==◌, ◌++◌, Bool, true, List, [], ◌∷◌, Some, drop, filter, get_or, length, map, set, slice_get, refl, ap, sym, ◌∙◌, subst, inl, inr, arith, false}
use Rattle.std.proofs.lemmas.Bool.{and_parts, both_ways, cases_eq, eq-eqb, eqb-true, ltb-true, ne_eqb}
use Rattle.std.proofs.lemmas.List.{drop-drop, get_or-drop, get_or-set_other, get_or-set_same, get_or_default, length-append, length-drop, length-map, length-set, map-set}
use Rattle.std.proofs.lemmas.List.FromFn.{get_or-map-range_with_len, length-map-range_with_len}
use Rattle.std.specs.declared.vec.Vec.{Vec}
use Rattle.std.specs.List.{AllByRecursion, list_all, range_with_len}
use Rattle.std.specs.Prelude.{IfSome, None, Option, is_some, nat_lt, option_map}
use Rattle.tw_event.specs.declared.event.Event.{Event}
use Rattle.tw_model.specs.Case.{simulation}
use Rattle.tw_model.specs.State.{Router, State}
use Rattle.tw_parallel.specs.Moving.{fit}
use Rattle.tw_parallel.specs.Vacancy.{AreVacant, IsFilled, Start, no_vacant, owner_in, vacant_from}
use Rattle.tw_seq.specs.Run.{Run, complete_run, router_after, routers_after}
use Rattle.tw_seq.specs.Traced.{lists_of, logs_after, retained}
use Rattle.tw_shard.specs.Cut.{IsShardAt}
use Rattle.tw_shard.specs.Shard.{Shard, no_shard}
use Rattle.tw_shard.proofs.Walks.{one_more}
use Rattle.tw_shard.specs.Vacant.{Vacant}
use Rattle.tw_sim.specs.Simulation.{Simulation, only}

-- each of a list of owners that fits is a worker
below_at : (n : ℕ) (owners : List ℕ) (r d : ℕ) → list_all (λ w. nat_lt w n) owners ≡ true → r < length owners → get_or owners r d < n
below_at n [] r d all within = absurd (omega arith)
below_at n (w ∷ owners) zero d all within = ltb-true w n (and_parts (nat_lt w n) (list_all (λ w. nat_lt w n) owners) all).0
below_at n (w ∷ owners) (suc r) d all within = below_at n owners r d (and_parts (nat_lt w n) (list_all (λ w. nat_lt w n) owners) all).1 (omega arith)

pub fit_long : (nodes n : ℕ) (owners : List ℕ) → fit nodes n owners ≡ true → length owners ≡ nodes
fit_long nodes n owners fits = eqb-true (length owners) nodes (and_parts (length owners == nodes) (list_all (λ w. nat_lt w n) owners) fits).0

pub fit_below : (nodes n : ℕ) (owners : List ℕ) (r d : ℕ) → fit nodes n owners ≡ true → r < nodes → get_or owners r d < n
fit_below nodes n owners r d fits known =
    let parts = and_parts (length owners == nodes) (list_all (λ w. nat_lt w n) owners) fits in
    let long = fit_long nodes n owners fits in
    below_at n owners r d parts.1 (omega arith)

module _ (s : Start) where
  -- worker w's routers from this one on
  abbrev missing : ℕ → ℕ → List ℕ
  missing from w = filter (λ r. owner_in s r == w) (range_with_len from (s.case.net.nodes - from))

  first_missing : (from w : ℕ) → from < s.case.net.nodes → missing from w ≡ filter (λ r. owner_in s r == w) (from ∷ range_with_len (from + 1) (s.case.net.nodes - (from + 1)))
  first_missing from w known =
      let more : s.case.net.nodes - from ≡ suc (s.case.net.nodes - (from + 1)) = omega arith in
      ap (λ j. filter (λ r. owner_in s r == w) (range_with_len from j)) more

  -- the router itself is its worker's first
  own_missing : (from : ℕ) → from < s.case.net.nodes → missing from (owner_in s from) ≡ from ∷ missing (from + 1) (owner_in s from)
  own_missing from known = first_missing from (owner_in s from) known ∙ rw (eq-eqb (owner_in s from) (owner_in s from) refl) refl

  -- and is none of the others'
  other_missing : (from w : ℕ) → from < s.case.net.nodes → (owner_in s from ≡ w → ⊥) → missing from w ≡ missing (from + 1) w
  other_missing from w known other = first_missing from w known ∙ rw (ne_eqb (owner_in s from) w other) refl

  pub next_missing : (from : ℕ) (vs : List Vacant) → from < s.case.net.nodes → owner_in s from < s.workers → AreVacant s from vs
      → slice_get (get_or vs (owner_in s from) no_vacant).missing 0 ≡ Some from
  next_missing from vs known home are =
      ap (λ (v : Vacant). slice_get v.missing 0) (are.each (owner_in s from) home) ∙ ap (λ rs. slice_get rs 0) (own_missing from known)

  -- a router has come to its worker's shard
  pub one_came : (from : ℕ) (vs ws : List Vacant) (v : Vacant) → from < s.case.net.nodes → owner_in s from < s.workers → AreVacant s from vs
      → v ≡ record (get_or vs (owner_in s from) no_vacant) { missing = drop 1 (get_or vs (owner_in s from) no_vacant).missing }
      → ws ≡ set vs (owner_in s from) v → AreVacant s (from + 1) ws
  one_came from vs ws v known home are came changed =
      let k = owner_in s from in
      let here = are.each k home in
      let count = are.count in
      let left : drop 1 (missing from k) ≡ missing (from + 1) k = ap (drop 1) (own_missing from known) in
      let now : v ≡ vacant_from s (from + 1) k =
      came ∙ (ap (λ (u : Vacant). record u { missing = drop 1 u.missing }) here ∙ ap (λ rs. record (vacant_from s from k) { missing = rs }) left) in
      subst (AreVacant s (from + 1)) (sym changed) (record {
        count = length-set vs k v ∙ count;
        each = λ w within. elim (cases_eq w k) [
          | inl same ↦ subst (λ j. get_or (set vs k v) j no_vacant ≡ vacant_from s (from + 1) j) (sym same) (get_or-set_same vs k v no_vacant (omega arith) ∙ now)
          | inr other ↦
              get_or-set_other vs k w v no_vacant (λ same. other same)
              ∙ (are.each w within ∙ ap (λ rs. record (vacant_from s from w) { missing = rs }) (other_missing from w known (λ same. other (sym same))))
        ];
      })

  -- none is missing where all have come
  pub none_missing : (vs : List Vacant) → AreVacant s s.case.net.nodes vs → (w : ℕ) → w < s.workers → (get_or vs w no_vacant).missing ≡ []
  none_missing vs are w within =
      let none : s.case.net.nodes - s.case.net.nodes ≡ 0 = omega arith in
      ap (λ (v : Vacant). v.missing) (are.each w within) ∙ ap (λ j. filter (λ r. owner_in s r == w) (range_with_len s.case.net.nodes j)) none

-- ---- the routers of a run, and their events where they are retained

-- the run that is taken over
abbrev run : Start → Run
run s = complete_run s.case s.time

-- those of it from this router on have not come
pub record AreComing (s : Start) (from : ℕ) (routers : List Router) (logs : Option (List (List Event))) (shards : List Vacant) : Type 0 where
  pub within : from ≤ s.case.net.nodes
  pub routers_are : routers ≡ map (router_after s.case (run s).events) (range_with_len from (s.case.net.nodes - from))
  pub long : IfSome logs (λ lists. length lists ≡ s.case.net.nodes)
  pub logs_are : IfSome logs (λ lists. (r : ℕ) → from ≤ r → r < s.case.net.nodes → get_or lists r [] ≡ only (simulation s.case) r (run s).events)
  pub retains : is_some logs ≡ s.retains
  pub shards_are : AreVacant s from shards

-- what holds of the lists that are retained
retained_lists : {Y Z : Type 0} (P : List (List Event) → Type 0) (logs : Option (Vec (Vec Event Z) Y)) → IfSome logs (λ logs. P (lists_of logs.items)) → IfSome (retained logs) P
retained_lists P (Some logs) h = h
retained_lists P None h = h

pub retained_some : {Y Z : Type 0} (logs : Option (Vec (Vec Event Z) Y)) → is_some (retained logs) ≡ is_some logs
retained_some (Some logs) = refl
retained_some None = refl

if_some : {A : Type 0} (P Q : A → Type 0) → ((a : A) → P a → Q a) → (o : Option A) → IfSome o P → IfSome o Q
if_some P Q f (Some a) h = f a h
if_some P Q f None h = h

module _ (s : Start) where
  abbrev m : Simulation State Event
  m = simulation s.case

  -- none has come
  pub none_came : {Y Z : Type 0} (routers : List Router) (logs : Option (Vec (Vec Event Z) Y)) (shards : List Vacant) → routers ≡ routers_after s.case (run s).events
      → IfSome logs (λ logs. lists_of logs.items ≡ logs_after s.case (run s).events) → is_some logs ≡ s.retains → AreVacant s 0 shards
      → AreComing s 0 routers (retained logs) shards
  none_came routers logs shards routers_are logs_are retains vacant =
      let nodes = s.case.net.nodes in
      let all : nodes ≡ nodes - 0 = omega arith in
      let lists = retained_lists (λ lists. lists ≡ logs_after s.case (run s).events) logs logs_are in
      record {
        within = omega arith;
        routers_are = routers_are ∙ ap (λ n. map (router_after s.case (run s).events) (range_with_len 0 n)) all;
        long = if_some (λ lists. lists ≡ logs_after s.case (run s).events) (λ lists. length lists ≡ nodes)
            (λ lists is. ap (λ ls. length ls) is ∙ length-map-range_with_len (λ r. only m r (run s).events) 0 nodes) (retained logs) lists;
        logs_are = if_some (λ lists. lists ≡ logs_after s.case (run s).events) (λ lists. (r : ℕ) → 0 ≤ r → r < nodes → get_or lists r [] ≡ only m r (run s).events)
            (λ lists is r least known. ap (λ ls. get_or ls r []) is ∙ get_or-map-range_with_len (λ r. only m r (run s).events) 0 nodes r r [] known (omega arith)) (retained logs) lists;
        retains = retained_some logs ∙ retains;
        shards_are = vacant;
      }

  -- the next one of them, where there is one
  pub next_of : (from : ℕ) (router : Router) (routers : List Router) (logs : Option (List (List Event))) (shards : List Vacant) → AreComing s from (router ∷ routers) logs shards
      → (from < s.case.net.nodes) × (router ≡ router_after s.case (run s).events from)
      × (routers ≡ map (router_after s.case (run s).events) (range_with_len (from + 1) (s.case.net.nodes - (from + 1))))
  next_of from router routers logs shards are =
      let nodes = s.case.net.nodes in
      let f = router_after s.case (run s).events in
      let count = ap (λ rs. length rs) are.routers_are ∙ length-map-range_with_len f from (nodes - from) in
      let within = are.within in
      let known : from < nodes = omega arith in
      let more : nodes - from ≡ suc (nodes - (from + 1)) = omega arith in
      let split : router ∷ routers ≡ f from ∷ map f (range_with_len (from + 1) (nodes - (from + 1))) = are.routers_are ∙ ap (λ n. map f (range_with_len from n)) more in
      (known, ap (λ rs. get_or rs 0 router) split, ap (drop 1) split)

  -- once it has come
  pub next_came : (from : ℕ) (router : Router) (routers : List Router) (logs later : Option (List (List Event))) (shards now : List Vacant) (v : Vacant)
      → AreComing s from (router ∷ routers) logs shards → owner_in s from < s.workers
      → later ≡ option_map (λ lists. set lists from []) logs
      → v ≡ record (get_or shards (owner_in s from) no_vacant) { missing = drop 1 (get_or shards (owner_in s from) no_vacant).missing }
      → now ≡ set shards (owner_in s from) v → AreComing s (from + 1) routers later now
  next_came from router routers logs later shards now v are home left came changed =
      let nodes = s.case.net.nodes in
      let next = next_of from router routers logs shards are in
      record {
        within = (let known = next.0 in omega arith);
        routers_are = next.2;
        long = subst (λ o. IfSome o (λ lists. length lists ≡ nodes)) (sym left) (long_later logs are.long);
        logs_are = subst (λ o. IfSome o (λ lists. (r : ℕ) → from + 1 ≤ r → r < nodes → get_or lists r [] ≡ only m r (run s).events)) (sym left) (logs_later logs are.logs_are);
        retains = ap (λ o. is_some o) left ∙ (same_some logs ∙ are.retains);
        shards_are = one_came s from shards now v next.0 home are.shards_are came changed;
      } where
        same_some : (o : Option (List (List Event))) → is_some (option_map (λ lists. set lists from []) o) ≡ is_some o
        same_some (Some lists) = refl
        same_some None = refl

        long_later : (o : Option (List (List Event))) → IfSome o (λ lists. length lists ≡ s.case.net.nodes) → IfSome (option_map (λ lists. set lists from []) o) (λ lists. length lists ≡ s.case.net.nodes)
        long_later (Some lists) h = length-set lists from [] ∙ h
        long_later None h = h

        logs_later : (o : Option (List (List Event))) → IfSome o (λ lists. (r : ℕ) → from ≤ r → r < s.case.net.nodes → get_or lists r [] ≡ only m r (run s).events)
            → IfSome (option_map (λ lists. set lists from []) o) (λ lists. (r : ℕ) → from + 1 ≤ r → r < s.case.net.nodes → get_or lists r [] ≡ only m r (run s).events)
        logs_later (Some lists) h = λ r least known. get_or-set_other lists from r [] [] (λ same. omega arith) ∙ h r (omega arith) known
        logs_later None h = h

  -- the number of the next one, and its worker
  pub number_known : (from number : ℕ) (router : Router) (routers : List Router) (logs : Option (List (List Event))) (shards : List Vacant) → AreComing s from (router ∷ routers) logs shards → number ≡ router.node
      → (number ≡ from) × (number < s.case.net.nodes)
  number_known from number router routers logs shards are told =
      let next = next_of from router routers logs shards are in
      let same : number ≡ from = told ∙ ap (λ (r : Router). r.node) next.1 in
      let known = next.0 in
      (same, omega arith)

  pub place_is : (from number : ℕ) → number ≡ from → number < length s.owners → get_or s.owners number 0 ≡ owner_in s from
  place_is from number same within = get_or_default s.owners number 0 s.workers within ∙ ap (owner_in s) same

  -- its events, where they are retained
  pub log_of : {Y Z : Type 0} (from number : ℕ) (log : List Event) (logs : Option (Vec (Vec Event Z) Y)) → number ≡ from → from < s.case.net.nodes → is_some logs ≡ true
      → IfSome logs (λ logs. log ≡ get_or (lists_of logs.items) number [])
      → IfSome (retained logs) (λ lists. (r : ℕ) → from ≤ r → r < s.case.net.nodes → get_or lists r [] ≡ only (simulation s.case) r (run s).events)
      → log ≡ only (simulation s.case) from (run s).events
  log_of from number log None same known some told are = absurd (both_ways false refl some)
  log_of from number log (Some logs) same known some told are = told ∙ (ap (λ k. get_or (lists_of logs.items) k []) same ∙ are from (omega arith) known)

  -- none is left: all have come
  pub all_came : (from : ℕ) (logs : Option (List (List Event))) (shards : List Vacant) → AreComing s from [] logs shards → AreVacant s s.case.net.nodes shards
  all_came from logs shards are =
      let nodes = s.case.net.nodes in
      let count = ap (λ rs. length rs) are.routers_are ∙ length-map-range_with_len (router_after s.case (run s).events) from (nodes - from) in
      let within = are.within in
      let all : from ≡ nodes = omega arith in
      subst (λ n. AreVacant s n shards) all are.shards_are

-- lists that are retained, one of each router
pub retained_long : {Y Z : Type 0} (number count : ℕ) (logs : Option (Vec (Vec Event Z) Y)) → number < count → IfSome (retained logs) (λ lists. length lists ≡ count) → IfSome logs (λ logs. number < length logs.items)
retained_long number count None within long = long
retained_long {Z = Z} number count (Some logs) within long =
    let same = length-map logs.items (λ (log : Vec Event Z). log.items) in
    omega arith

-- one of them is taken
pub one_taken : {Y Z : Type 0} (logs : Option (Vec (Vec Event Z) Y)) (some : Vec (Vec Event Z) Y) (r : ℕ) (left : Vec Event Z) → logs ≡ Some some → left.items ≡ []
    → Some (lists_of (set some.items r left)) ≡ option_map (λ lists. set lists r []) (retained logs)
one_taken {Y = Y} {Z = Z} logs some r left is none =
    let taken : lists_of (set some.items r left) ≡ set (lists_of some.items) r [] =
    map-set (λ (log : Vec Event Z). log.items) some.items r left ∙ ap (λ (l : List Event). set (lists_of some.items) r l) none in
    ap (λ (lists : List (List Event)). Some lists) taken ∙ ap (λ (o : Option (Vec (Vec Event Z) Y)). option_map (λ lists. set lists r []) (retained o)) (sym is)

-- all have come, and each shard is its worker's at the time
pub closed_at : (s : Start) (vs : List Vacant) (ss : List Shard) → AreVacant s s.case.net.nodes vs → length ss ≡ length vs
    → ((k : ℕ) → k < length ss → IsFilled (get_or vs k no_vacant) (get_or ss k no_shard))
    → (k : ℕ) → k < length ss → IsShardAt s.case (owner_in s) s.time k s.retains s.cancel (get_or ss k no_shard)
closed_at s vs ss are long closed k within =
    let count = are.count in
    subst (λ v. IsFilled v (get_or ss k no_shard)) (are.each k (omega arith)) (closed k within) (owner_in s) refl

-- none is missing at any
pub whole_all : (s : Start) (vs : List Vacant) → AreVacant s s.case.net.nodes vs → AllByRecursion (λ v. v.missing ≡ []) vs
whole_all s vs are = each_of (λ v. v.missing ≡ []) vs no_vacant (λ k within. let count = are.count in none_missing s vs are k (omega arith)) where
  each_of : {A : Type 0} (P : A → Type 0) (xs : List A) (d : A) → ((k : ℕ) → k < length xs → P (get_or xs k d)) → AllByRecursion P xs
  each_of P [] d each = tt
  each_of P (x ∷ xs) d each = (each 0 (omega arith), each_of P xs d (λ k within. each (suc k) (omega arith)))

-- ---- shards are closed, one by one

-- the first of those that are left stands at the next place
at_front : {A : Type 0} (n : ℕ) (xs : List A) (x : A) (rest : List A) (d : A) → drop n xs ≡ x ∷ rest → (n < length xs) × (get_or xs n d ≡ x) × (drop (n + 1) xs ≡ rest)
at_front n xs x rest d is =
    let long = length-drop n xs in
    let some = ap (λ ys. length ys) is in
    let within : n < length xs = omega arith in
    let same : n + 0 ≡ n = omega arith in
    (within, sym (get_or-drop n xs 0 d ∙ ap (λ k. get_or xs k d) same) ∙ ap (λ ys. get_or ys 0 d) is, sym (drop-drop 1 n xs) ∙ ap (drop 1) is)

-- these wait to be closed, and those before them have become these shards
pub record AreClosed (all left : List Vacant) (shards : List Shard) : Type 0 where
  pub items : left ≡ drop (length shards) all
  pub fits : length shards ≤ length all
  pub whole : AllByRecursion (λ v. v.missing ≡ []) left
  pub each : (k : ℕ) → k < length shards → IsFilled (get_or all k no_vacant) (get_or shards k no_shard)

pub none_closed : (all left : List Vacant) (shards : List Shard) → left ≡ all → shards ≡ [] → AllByRecursion (λ v. v.missing ≡ []) all → AreClosed all left shards
none_closed all left shards all_left none whole =
    subst (AreClosed all left) (sym none) (subst (λ l. AreClosed all l []) (sym all_left) record { items = refl; fits = omega arith; whole = whole; each = λ k l. absurd (omega arith) })

pub one_closed : (all left : List Vacant) (v : Vacant) (shards now : List Shard) (s : Shard) → AreClosed all (v ∷ left) shards → IsFilled v s → now ≡ shards ++ s ∷ [] → AreClosed all left now
one_closed all left v shards now s are closed more =
    let n = length shards in
    let front = at_front n all v left no_vacant (sym are.items) in
    let long : length (shards ++ s ∷ []) ≡ n + 1 = length-append shards (s ∷ []) in
    subst (AreClosed all left) (sym more) record {
      items = sym front.2 ∙ ap (λ k. drop k all) (sym long);
      fits = (let within = front.0 in omega arith);
      whole = are.whole.1;
      each = λ k l. one_more (λ k u. IsFilled (get_or all k no_vacant) u) shards s no_shard n refl are.each
          (subst (λ u. IsFilled u s) (sym front.1) closed) k (omega arith);
    }

-- all are closed where none waits
pub all_closed : (all : List Vacant) (shards : List Shard) → AreClosed all [] shards → length shards ≡ length all
all_closed all shards are =
    let long = length-drop (length shards) all in
    let none = ap (λ vs. length vs) are.items in
    let fits = are.fits in
    omega arith
