-- The committed events of all routers, gathered and in order, and what is summed up over all routers.
use Rattle.std.proofs.Common.{◌≡◌, ℕ, zero, suc, ◌+◌, ◌-◌, ◌<◌, ◌≤◌, true, List, [], ◌∷◌, ◌++◌, append-nil, flat_map, length, max, nat_lt, reverse, take, refl, ap, sym, ◌∙◌, inl, inr, arith}
use Rattle.std.specs.List.{range_with_len}
use Rattle.std.specs.List.Sorted.{IsPermutation, IsSorted}
use Rattle.std.proofs.lemmas.Bool.{cases_Bool, lt-ltb, ltb-true}
use Rattle.std.proofs.lemmas.List.{length-reverse, reverse-append, take-append-le, take_all}
use Rattle.std.proofs.lemmas.Grind.{flat_map-append}
use Rattle.tw_core.specs.Machine.{committed}
use Rattle.tw_core.specs.Parts.{total}
use Rattle.tw_event.specs.declared.event.Event.{Event}
use Rattle.tw_event.specs.contracts.event.EventOrd.TheImpl as event_ord
use Rattle.tw_model.specs.Case.{Case, IsCase, simulation}
use Rattle.tw_model.proofs.Lawful.{lawful}
use Rattle.tw_model.specs.State.{Router}
use Rattle.tw_ordered.proofs.Spares.{sorted_whole}
use Rattle.tw_shard.specs.Shard.{Shard, owns, shard_core}
use Rattle.tw_shard.specs.Shards.{HaveAll, RetainAll, ahead_in, committed_in, committed_of_all, greatest, history_in, oldest_in, shard_for}
use Rattle.tw_shard.specs.Timeline.{last_change_at}
use Rattle.tw_sim.specs.Simulation.{Simulation, IsFalling, IsLawful, below, state, times}
use Rattle.tw_sim.proofs.Counts.{in_head, times-append, times-reverse}

module _ {S E : Type 0} (m : Simulation S E) (law : IsLawful m) where
  -- of a falling history whose newest event is before a time all are
  all_below : (t : ℕ) (x : E) (xs : List E) → m.time x < t → ((e : E) → 0 < times m e xs → m.before e x ≡ true) → below m t xs ≡ xs
  all_below t x [] early older = refl
  all_below t x (y ∷ xs) early older =
      let first = law.timely y x (older y (in_head m law y xs)) in
      rw (lt-ltb (m.time y) t (omega arith)) (ap (λ ys. y ∷ ys) (all_below t x xs early (λ e there. older e (omega arith))))

  shorter : (t : ℕ) (xs : List E) → length (below m t xs) ≤ length xs
  shorter t [] = omega arith
  shorter t (x ∷ xs) =
      let h = shorter t xs in
      elim (cases_Bool (nat_lt (m.time x) t)) [
        | inl early ↦ rw early (omega arith)
        | inr late ↦ rw late (omega arith)
      ]

  -- the oldest events of a falling history, as many as are before a time, are these
  pub oldest_below : (t : ℕ) (h : List E) → IsFalling m h → take (length (below m t h)) (reverse h) ≡ reverse (below m t h)
  oldest_below t [] falling = refl
  oldest_below t (x ∷ xs) falling =
      elim (cases_Bool (nat_lt (m.time x) t)) [
        | inl early ↦ (
            let all : below m t (x ∷ xs) ≡ x ∷ xs = rw early (ap (λ ys. x ∷ ys) (all_below t x xs (ltb-true (m.time x) t early) falling.0)) in
            ap (λ ys. take (length ys) (reverse (x ∷ xs))) all
            ∙ (take_all (length (x ∷ xs)) (reverse (x ∷ xs)) (let same = length-reverse (x ∷ xs) in omega arith) ∙ ap reverse (sym all)))
        | inr late ↦ (
            let rest : below m t (x ∷ xs) ≡ below m t xs = rw late refl in
            let few = shorter t xs in
            let same = length-reverse xs in
            ap (λ ys. take (length ys) (reverse (x ∷ xs))) rest
            ∙ (ap (take (length (below m t xs))) (reverse-append (x ∷ []) xs)
            ∙ (take-append-le (length (below m t xs)) (reverse xs) (x ∷ []) (omega arith)
            ∙ (oldest_below t xs falling.1 ∙ ap reverse (sym rest)))))
      ]

-- ---- one more router

range_at : (a n : ℕ) → range_with_len a (suc n) ≡ range_with_len a n ++ (a + n) ∷ []
range_at a zero = let same : a ≡ a + 0 = omega arith in ap (λ k. k ∷ []) same
range_at a (suc n) =
    let same : a + 1 + n ≡ a + suc n = omega arith in
    ap (λ ks. a ∷ ks) (range_at (a + 1) n ∙ ap (λ k. range_with_len (a + 1) n ++ k ∷ []) same)

range_next : (n : ℕ) → range_with_len 0 (n + 1) ≡ range_with_len 0 n ++ n ∷ []
range_next n =
    let up : n + 1 ≡ suc n = omega arith in
    let same : 0 + n ≡ n = omega arith in
    ap (range_with_len 0) up ∙ (range_at 0 n ∙ ap (λ k. range_with_len 0 n ++ k ∷ []) same)

-- its events are gathered
pub one_gathered : {X : Type 0} (f : ℕ → List X) (n : ℕ) (before events more : List X) → before ≡ flat_map f (range_with_len 0 n)
    → events ≡ before ++ more → more ≡ f n → events ≡ flat_map f (range_with_len 0 (n + 1))
one_gathered f n before events more so added is =
    added
    ∙ ((λ i. so i ++ is i)
    ∙ (ap (λ ys. flat_map f (range_with_len 0 n) ++ ys) (sym (append-nil (f n)))
    ∙ (sym (flat_map-append f (range_with_len 0 n) (n ∷ [])) ∙ ap (flat_map f) (sym (range_next n)))))

total_more : (f : ℕ → ℕ) (xs : List ℕ) (n : ℕ) → total f (xs ++ n ∷ []) ≡ total f xs + f n
total_more f [] n = omega arith
total_more f (x ∷ xs) n = let h = total_more f xs n in omega arith

-- its number is added
pub one_counted : (f : ℕ → ℕ) (n count : ℕ) → count ≡ total f (range_with_len 0 n) → count + f n ≡ total f (range_with_len 0 (n + 1))
one_counted f n count is = ap (λ c. c + f n) is ∙ (sym (total_more f (range_with_len 0 n) n) ∙ ap (total f) (sym (range_next n)))

greatest_more : (f : ℕ → ℕ) (xs : List ℕ) (n : ℕ) → greatest f (xs ++ n ∷ []) ≡ max (greatest f xs) (f n)
greatest_more f [] n = omega arith
greatest_more f (x ∷ xs) n = let h = greatest_more f xs n in omega arith

-- its number may be greater
pub one_greater : (f : ℕ → ℕ) (n : ℕ) → greatest f (range_with_len 0 (n + 1)) ≡ max (greatest f (range_with_len 0 n)) (f n)
one_greater f n = ap (greatest f) (range_next n) ∙ greatest_more f (range_with_len 0 n) n

-- ---- what is read of a router at its shard

-- a router of a case after a history
abbrev pub told : Case → ℕ → List Event → Router
told case r history = record { net = case.net; node = r; state = state (simulation case) r history }

module _ (case : Case) (ss : List Shard) (all : HaveAll case ss) (r : ℕ) (known : r < case.net.nodes) (s : Shard) (there : s ≡ shard_for ss r) where
  pub case_there : s.terms.case ≡ case
  case_there = ap (λ (x : Shard). x.terms.case) there ∙ all.cases r known

  pub own_there : owns s r ≡ true
  own_there = ap (λ x. owns x r) there ∙ all.own r known

  pub oldest_there : take (length (committed (simulation s.terms.case) (shard_core 0 s) r)) (reverse ((shard_core 0 s).history r)) ≡ oldest_in case ss r
  oldest_there = λ i. take (length (committed (simulation (case_there i)) (shard_core 0 (there i)) r)) (reverse ((shard_core 0 (there i)).history r))

  pub ahead_there : length ((shard_core 0 s).history r) - length (committed (simulation s.terms.case) (shard_core 0 s) r) ≡ ahead_in case ss r
  ahead_there = λ i. length ((shard_core 0 (there i)).history r) - length (committed (simulation (case_there i)) (shard_core 0 (there i)) r)

  pub change_there : last_change_at s.terms.case.net r ((shard_core 0 s).history r) ≡ last_change_at case.net r (history_in ss r)
  change_there = λ i. last_change_at (case_there i).net r ((shard_core 0 (there i)).history r)

  pub router_there : told s.terms.case r ((shard_core 0 s).history r) ≡ told case r (history_in ss r)
  router_there = λ i. told (case_there i) r ((shard_core 0 (there i)).history r)

-- ---- in order

module _ (case : Case) (is : IsCase case) (ss : List Shard) (kept : RetainAll case ss) where
  -- each event is gathered as often as it is committed
  gathered : (e : Event) (rs : List ℕ) → times (simulation case) e (flat_map (λ r. oldest_in case ss r) rs)
      ≡ times (simulation case) e (flat_map (λ r. committed_in case ss r) rs)
  gathered e [] = refl
  gathered e (r ∷ rs) =
      let m = simulation case in
      let h = gathered e rs in
      let old = ap (times m e) (oldest_below m (lawful case is) ((shard_core 0 (shard_for ss r)).done r) (history_in ss r) (kept.falling r)) in
      let same = times-reverse m e (committed_in case ss r) in
      let a = times-append m e (oldest_in case ss r) (flat_map (λ r. oldest_in case ss r) rs) in
      let b = times-append m e (committed_in case ss r) (flat_map (λ r. committed_in case ss r) rs) in
      omega arith

  -- so, sorted, they are the committed events in order
  pub sorted_committed : (all events : List Event) → all ≡ flat_map (λ r. oldest_in case ss r) (range_with_len 0 case.net.nodes) → IsPermutation all events
      → IsSorted event_ord.ghosts.cmp events → events ≡ committed_of_all case ss
  sorted_committed all events is_all p s =
      let rs = range_with_len 0 case.net.nodes in
      sorted_whole (flat_map (λ r. committed_in case ss r) rs) [] events all tt
      (λ e. ap (times (simulation case) e) is_all ∙ (gathered e rs ∙ omega arith)) p s
