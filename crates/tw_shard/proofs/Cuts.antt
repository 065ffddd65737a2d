-- A shard where all workers stand at one time of the run.
use Rattle.std.proofs.Common.{◌≡◌, ℕ, zero, suc, ◌+◌, ◌-◌, ◌<◌, ◌≤◌, ◌==◌, ◌&&◌, Bool, true, List, [], ◌∷◌, ◌++◌, Some, ap, sym, ◌∙◌, refl, subst, arith}
use Rattle.std.proofs.Common.{drop, filter, get_or, length, map, slice_get, take}
use Rattle.std.specs.List.{AllByRecursion, range_with_len}
use Rattle.std.proofs.lemmas.Bool.{lt-ltb}
use Rattle.circular_buffer.proofs.Places.{slice_get-drop}
use Rattle.std.proofs.lemmas.List.{append-nil, drop-drop, length-append, map_more, take-append-drop}
use Rattle.std.proofs.lemmas.Option.{get_or_from_slice_get, slice_get_within}
use Rattle.tw_core.proofs.Cuts.{run_suits}
use Rattle.tw_core.specs.declared.limits.TheConstants.{OPENING_ROOM}
use Rattle.tw_core.proofs.Sums.{all_map}
use Rattle.tw_event.specs.declared.event.Event.{Event}
use Rattle.tw_event.specs.Order.{event_before, event_same}
use Rattle.tw_model.proofs.Lawful.{lawful, numbered}
use Rattle.tw_model.proofs.Within.{suits_within}
use Rattle.tw_model.specs.Case.{Case, IsCase, simulation}
use Rattle.tw_model.specs.Effect.{suits}
use Rattle.tw_model.specs.State.{Router}
use Rattle.tw_ordered.proofs.Events.{event_law, filter-in_order}
use Rattle.tw_ordered.proofs.Ordered.{all-filter, all-from_in_order, insert_all_in_order}
use Rattle.tw_ordered.specs.Queue.{AreFor}
use Rattle.tw_shard.proofs.Laid.{IsLaid, laid, latest_laid, whole_laid}
use Rattle.tw_shard.proofs.Openings.{owned_by, same_filter}
use Rattle.tw_shard.specs.Cut.{IsShardAt, timeline_at}
use Rattle.tw_shard.specs.Inside.{HasHandledTo}
use Rattle.tw_shard.specs.Past.{own_run}
use Rattle.tw_shard.specs.Roster.{StandOnce, StandsInList, has}
use Rattle.tw_shard.specs.Shard.{IsSoundShard, Shard}
use Rattle.tw_shard.specs.Timeline.{IsTimeline, Timeline, known, last_change_at, router_of}
use Rattle.tw_sim.proofs.Closed.{log_closed}
use Rattle.tw_sim.proofs.Counts.{in_filter, is_order}
use Rattle.tw_sim.proofs.Ordered.{all_counted}
use Rattle.tw_sim.specs.Ordered.{insert_all}
use Rattle.tw_sim.specs.Seq.{log, rest}

module _ (case : Case) (is : IsCase case) (time : ℕ) where
  -- what a router handles before a time is before it
  pub run_early : (r : ℕ) → AllByRecursion (λ e. e.time < time) (own_run case r time)
  run_early r =
      let m = simulation case in
      let law = lawful case is in
      let closed = log_closed m law (numbered case is) time in
      all_counted m.before m.same (is_order m law) (λ e. e.time < time) (own_run case r time)
      (λ e h. ((closed.exact e).0 (in_filter m law (λ x. m.dst x == r) e (log m time) h).1).0)

  -- a router with all its events committed to the time is a timeline
  pub stands_at : (retains : Bool) (router : Router) (change : ℕ) → router ≡ router_of (timeline_at case retains time router.node)
      → change ≡ last_change_at case.net router.node (own_run case router.node time)
      → IsTimeline (record {
        router = router;
        past = record { case = case; node = router.node; retains = retains; events = own_run case router.node time; done = time };
        ahead = [];
        room = OPENING_ROOM;
        past_change = change;
      })
  stands_at retains router change known_is changed =
      let net : router.net ≡ case.net = ap (λ (r : Router). r.net) known_is in
      let run = own_run case router.node time in
      record {
        state = ap (λ (r : Router). r.state) known_is ∙ ap (λ n. known n router.node run) (sym net);
        noted = tt;
        past = run_early router.node;
        change = changed ∙ ap (λ n. last_change_at n router.node run) (sym net);
        node = refl;
        is_case = is;
      }

  -- each event that the run leaves suits its receiver
  pub left_suits : AllByRecursion (λ e. suits case.net e.dst e ≡ true) (rest (simulation case) time)
  left_suits =
      let m = simulation case in
      let law = lawful case is in
      all_counted m.before m.same (is_order m law) (λ e. suits case.net e.dst e ≡ true) (rest m time) (run_suits m law time).pending

  -- so that it is for a router of the case
  left_home : AreFor case.net.nodes (rest (simulation case) time)
  left_home =
      all_map (λ e. suits case.net e.dst e ≡ true) (λ e. e.dst < case.net.nodes) (λ e h. suits_within case.net e.dst e is.net h) (rest (simulation case) time) left_suits

  module _ (events : List Event) (all : insert_all event_before events [] ≡ rest (simulation case) time) where
    -- in whatever order
    pub given_home : AreFor case.net.nodes events
    given_home =
        all-from_in_order event_before event_same (λ e. e.dst < case.net.nodes) events
        (subst (AreFor case.net.nodes) (sym (sym (insert_all_in_order event_before event_same event_law events) ∙ all)) left_home)

    -- those of them that are for some routers, in order
    pub given_own : (own : ℕ → Bool) → insert_all event_before (filter (λ e. own e.dst) events) [] ≡ filter (λ e. own e.dst) (rest (simulation case) time)
    given_own own =
        insert_all_in_order event_before event_same event_law (filter (λ e. own e.dst) events)
        ∙ (sym (filter-in_order (λ e. own e.dst) events)
        ∙ ap (filter (λ e. own e.dst)) (sym (insert_all_in_order event_before event_same event_law events) ∙ all))

-- a shard with its routers as they stand at a time, the events that the run leaves for them, and nothing else
pub record IsAt (time : ℕ) (s : Shard) : Type 0 where
  pub case : IsCase s.terms.case
  pub worker : s.terms.worker < s.terms.workers
  pub known : (k r : ℕ) → StandsInList s.routers k r → r < s.terms.case.net.nodes
  pub apart : StandOnce s.routers
  pub timelines : s.timelines ≡ map (timeline_at s.terms.case s.terms.retains time) s.routers
  pub pending : s.pending ≡ filter (λ e. has s.routers e.dst) (rest (simulation s.terms.case) time)
  pub kept : s.kept ≡ []
  pub outgoing : s.outgoing ≡ []
  pub held : s.held ≡ []
  pub bound : s.bound ≡ time

module _ (time : ℕ) (s : Shard) (is : IsAt time s) where
  laid_at : IsLaid (timeline_at s.terms.case s.terms.retains time) s
  laid_at = record {
    case = is.case;
    worker = is.worker;
    known = is.known;
    apart = is.apart;
    timelines = is.timelines;
    lines = λ r. record { net = refl; node = refl; done = let bound = is.bound in omega arith; case = refl; retains = refl };
    pending =
        let P = λ (e : Event). suits s.terms.case.net e.dst e ≡ true in
        subst (AllByRecursion P) (sym is.pending)
        (all-filter event_before event_same P (λ e. has s.routers e.dst) (rest (simulation s.terms.case) time) (left_suits s.terms.case is.case time));
    held = is.held;
  }

  pub whole_at : IsSoundShard s
  whole_at = whole_laid (timeline_at s.terms.case s.terms.retains time) s laid_at

  -- what its routers have handled is before the time
  pub latest_at : (latest : ℕ) → latest ≡ time - 1 → HasHandledTo latest s
  latest_at latest last =
      latest_laid (timeline_at s.terms.case s.terms.retains time) s laid_at latest
      (λ r. all_map (λ e. e.time < time) (λ e. e.time ≤ latest) (λ e early. omega arith) (own_run s.terms.case r time) (run_early s.terms.case is.case time r))

  pub shard_at : (who : ℕ → ℕ) → s.routers ≡ filter (λ r. who r == s.terms.worker) (range_with_len 0 s.terms.case.net.nodes)
      → IsShardAt s.terms.case who time s.terms.worker s.terms.retains s.terms.cancel s
  shard_at who order = record {
    owns_are = owned_by s.routers who s.terms.worker s.terms.case.net.nodes order;
    routers = laid (timeline_at s.terms.case s.terms.retains time) s laid_at;
    pending = is.pending ∙ same_filter (has s.routers) (λ r. who r == s.terms.worker) (rest (simulation s.terms.case) time)
        (all_map (λ e. suits s.terms.case.net e.dst e ≡ true) (λ e. has s.routers e.dst ≡ (who e.dst == s.terms.worker))
        (λ e h. let within = suits_within s.terms.case.net e.dst e is.case.net h in
        owned_by s.routers who s.terms.worker s.terms.case.net.nodes order e.dst ∙ ap (λ b. b && (who e.dst == s.terms.worker)) (lt-ltb e.dst s.terms.case.net.nodes within))
        (rest (simulation s.terms.case) time) (left_suits s.terms.case is.case time));
    kept = is.kept;
    outgoing = is.outgoing;
    held = is.held;
    bound = is.bound;
    case_is = refl;
    worker = refl;
    retains_are = refl;
    cancel_is = refl;
  }

-- ---- routers come, one by one

-- the first router that is missing has the next place
next_place : (rs : List ℕ) (n r : ℕ) → slice_get (drop n rs) 0 ≡ Some r → (n < length rs) × (get_or rs n 0 ≡ r)
next_place rs n r next =
    let at : slice_get rs n ≡ Some r = sym (slice_get-drop n rs 0 n (omega arith)) ∙ next in
    (slice_get_within rs n r at, get_or_from_slice_get rs n r 0 at)

module _ (line : ℕ → Timeline) (rs : List ℕ) (ts later : List Timeline) (t : Timeline) (r : ℕ) (were : ts ≡ map line (take (length ts) rs))
    (next : slice_get (drop (length ts) rs) 0 ≡ Some r) (is : t ≡ line r) (more : later ≡ ts ++ t ∷ []) where
  pub one_longer : length later ≡ length ts + 1
  one_longer = ap length more ∙ length-append ts (t ∷ [])

  -- its timeline stands behind those of the others
  pub one_come : later ≡ map line (take (length later) rs)
  one_come =
      let at = next_place rs (length ts) r next in
      let here = is ∙ ap line (sym at.1) in
      more ∙ ((λ i. were i ++ here i ∷ []) ∙ (sym (map_more line rs (length ts) 0 at.0) ∙ ap (λ n. map line (take n rs)) (sym one_longer)))

  -- and it is missing no more
  pub one_less : drop (length later) rs ≡ drop 1 (drop (length ts) rs)
  one_less = ap (λ n. drop n rs) one_longer ∙ sym (drop-drop 1 (length ts) rs)

-- where no router is missing, all have come
pub all_come : (n : ℕ) (rs : List ℕ) → drop n rs ≡ [] → take n rs ≡ rs
all_come n rs none = sym (append-nil (take n rs)) ∙ (ap (λ xs. take n rs ++ xs) (sym none) ∙ take-append-drop n rs)

-- what holds of all elements holds of the first ones
pub all_taken : {A : Type 0} (P : A → Type 0) (n : ℕ) (xs : List A) → AllByRecursion P xs → AllByRecursion P (take n xs)
all_taken P zero xs all = tt
all_taken P (suc n) [] all = tt
all_taken P (suc n) (x ∷ xs) all = (all.0, all_taken P n xs all.1)
