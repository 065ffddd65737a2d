-- A router that goes from one shard to another.
use Rattle.std.proofs.Common.{◌≡◌, ◌≢◌, ◌⊎◌, ℕ, ◌<◌, ◌≤◌, ◌==◌, ◌&&◌, ◌||◌, ◌++◌, ◌∷◌, [], Bool, true, false, not, max, List, get_or, length, refl, ap, sym, ◌∙◌, subst, inl, inr, arith}
use Rattle.std.specs.List.{AllByRecursion}
use Rattle.std.proofs.Math.Seq.{get_or-append_seam}
use Rattle.std.proofs.lemmas.Bool.{cases_Bool, cases_eq, cases_lt, eq-eqb, false≢true, ne_eqb}
use Rattle.std.proofs.lemmas.List.{get_or_append_left, length-append}
use Rattle.tw_event.specs.declared.event.Event.{Event}
use Rattle.tw_event.specs.Order.{event_before, event_same}
use Rattle.tw_model.specs.Effect.{suits}
use Rattle.tw_held.specs.Held.{sent_by, sent_by_others}
use Rattle.tw_ordered.specs.Queue.{for_others, for_router}
use Rattle.tw_ordered.proofs.Events.{event_law}
use Rattle.tw_ordered.proofs.Ordered.{all-filter}
use Rattle.tw_sim.proofs.Ordered.{rising-insert_all}
use Rattle.tw_sim.specs.Ordered.{insert_all}
use Rattle.tw_sim.specs.Rising.{IsRising}
use Rattle.tw_shard.specs.Cut.{IsGone}
use Rattle.tw_shard.specs.Inside.{HasHandledTo}
use Rattle.tw_shard.specs.Moving.{HasMovedIn, HasMovedOut}
use Rattle.tw_shard.specs.Roster.{IsWithout, StandOnce, StandsInList, has, place_in}
use Rattle.tw_shard.specs.Shard.{HasTimeline, IsSoundShard, Shard, no_timeline, owns, place, timeline}
use Rattle.tw_shard.specs.Timeline.{Timeline, history}
use Rattle.tw_shard.proofs.Latest.{until_later}
use Rattle.tw_shard.proofs.Openings.{all_inserted}
use Rattle.tw_shard.proofs.Releasing.{rising_part}
use Rattle.tw_shard.proofs.Rosters.{apart_without, beside, has_at, has_without, place_is, stands, stands_not}

-- ---- one router more at the end of a list

module _ (rs : List ℕ) (r : ℕ) (apart : StandOnce rs) (new : has rs r ≡ false) where
  -- what stands in it stood there, or is the new one
  added : (k q : ℕ) → StandsInList (rs ++ r ∷ []) k q → StandsInList rs k q ⊎ ((k ≡ length rs) × (q ≡ r))
  added k q at =
      let within = at.within in
      let long = length-append rs (r ∷ []) in
      elim (cases_lt k (length rs)) [
        | inl before ↦ inl (record { within = before; is = sym (get_or_append_left rs (r ∷ []) 0 k before) ∙ at.is })
        | inr past ↦ (
            let end : k ≡ length rs = omega arith in
            inr (end, sym at.is ∙ (ap (λ j. get_or (rs ++ r ∷ []) j 0) end ∙ get_or-append_seam rs r [] 0)))
      ]

  kept_there : (k q : ℕ) → StandsInList rs k q → StandsInList (rs ++ r ∷ []) k q
  kept_there k q at =
      let within = at.within in
      let long = length-append rs (r ∷ []) in
      record { within = omega arith; is = get_or_append_left rs (r ∷ []) 0 k within ∙ at.is }

  last_there : StandsInList (rs ++ r ∷ []) (length rs) r
  last_there = let long = length-append rs (r ∷ []) in record { within = omega arith; is = get_or-append_seam rs r [] 0 }

  other : (k q : ℕ) → StandsInList rs k q → q ≢ r
  other k q at same = false≢true (sym new ∙ subst (λ p. has rs p ≡ true) same (has_at rs k q at))

  pub apart_added : StandOnce (rs ++ r ∷ [])
  apart_added j k q one two =
      elim (added j q one) [
        | inl x ↦ elim (added k q two) [
          | inl y ↦ apart j k q x y
          | inr y ↦ absurd (other j q x y.1)
        ]
        | inr x ↦ elim (added k q two) [
          | inl y ↦ absurd (other k q y x.1)
          | inr y ↦ x.0 ∙ sym y.0
        ]
      ]

  or_true : (b : Bool) → (b || true) ≡ true
  or_true true = refl
  or_true false = refl

  or_false : (b : Bool) → (b || false) ≡ b
  or_false true = refl
  or_false false = refl

  pub has_added : (q : ℕ) → has (rs ++ r ∷ []) q ≡ (has rs q || (q == r))
  has_added q =
      elim (cases_eq q r) [
        | inl same ↦ ap (has (rs ++ r ∷ [])) same ∙ (has_at (rs ++ r ∷ []) (length rs) r last_there ∙ sym (ap (λ b. has rs q || b) (eq-eqb q r same) ∙ or_true (has rs q)))
        | inr apart_from ↦ elim (cases_Bool (has rs q)) [
          | inl here ↦ has_at (rs ++ r ∷ []) (place_in rs q) q (kept_there (place_in rs q) q (stands rs q here)) ∙ sym (ap (λ b. b || (q == r)) here)
          | inr none ↦ stands_not (rs ++ r ∷ []) q (λ k at. elim (added k q at) [
            | inl x ↦ false≢true (sym none ∙ has_at rs k q x)
            | inr x ↦ apart_from x.1
          ]) ∙ sym (ap (λ b. b || (q == r)) none ∙ ne_eqb q r apart_from)
        ]
      ]

  pub place_kept : (q : ℕ) → has rs q ≡ true → place_in (rs ++ r ∷ []) q ≡ place_in rs q
  place_kept q here = place_is (rs ++ r ∷ []) (place_in rs q) q apart_added (kept_there (place_in rs q) q (stands rs q here))

  pub place_last : place_in (rs ++ r ∷ []) r ≡ length rs
  place_last = place_is (rs ++ r ∷ []) (length rs) r apart_added last_there

-- ---- the shard that a router leaves

module _ (s : Shard) (r : ℕ) (whole : IsSoundShard s) (mine : owns s r ≡ true) (rs : List ℕ) (ts : List Timeline)
    (routers : IsWithout ℕ 0 (place s r) s.routers rs) (lines : IsWithout Timeline no_timeline (place s r) s.timelines ts) where
  abbrev pub after_leaving : Shard
  after_leaving = record s {
    routers = rs;
    timelines = ts;
    pending = for_others r s.pending;
    kept = for_others r s.kept;
    held = sent_by_others r s.held;
  }

  there : StandsInList s.routers (place s r) r
  there = stands s.routers r mine

  owned_before : (q : ℕ) → has rs q ≡ true → owns s q ≡ true
  owned_before q ours = first (owns s q) (not (q == r)) (sym (has_without s.routers rs (place s r) r whole.apart there routers q) ∙ ours) where
    first : (a b : Bool) → (a && b) ≡ true → a ≡ true
    first true b h = refl
    first false b h = absurd (false≢true h)

  same_line : (q : ℕ) → has rs q ≡ true → (place_in rs q < length ts) × (get_or ts (place_in rs q) no_timeline ≡ timeline s q)
  same_line = beside s.routers rs (place s r) r whole.apart there routers no_timeline s.timelines ts whole.long lines

  pub has_left : HasMovedOut r s after_leaving
  has_left = record {
    routers = has_without s.routers rs (place s r) r whole.apart there routers;
    timelines = λ q ours. (same_line q ours).1;
    pending = refl;
    kept = refl;
    held = refl;
    outgoing = refl;
    bound = refl;
    terms = refl;
  }

  -- with whatever waits and is held, the shard stays whole
  whole_with : (pending kept held : List Event) → AllByRecursion (λ e. suits s.terms.case.net e.dst e ≡ true) pending → IsRising event_before event_same held
      → IsSoundShard (record s { routers = rs; timelines = ts; pending = pending; kept = kept; held = held })
  whole_with pending kept held suit rising = record {
    case = whole.case;
    worker = whole.worker;
    apart = apart_without s.routers rs (place s r) r whole.apart there routers;
    long = let a = routers.long in let b = lines.long in let c = whole.long in omega arith;
    routers = λ q ours.
        let at = whole.routers q (owned_before q ours) in
        let line = same_line q ours in
        record {
          known = at.known;
          within = line.0;
          net = ap (λ t. t.net) line.1 ∙ at.net;
          node = ap (λ t. t.node) line.1 ∙ at.node;
          done = subst (λ (t : Timeline). t.done ≤ s.bound) (sym line.1) at.done;
          case = ap (λ t. t.case) line.1 ∙ at.case;
          retains = ap (λ t. t.retains) line.1 ∙ at.retains;
        };
    pending = suit;
    held = rising;
  }

  pub whole_left : IsSoundShard after_leaving
  whole_left =
      whole_with (for_others r s.pending) (for_others r s.kept) (sent_by_others r s.held)
      (all-filter event_before event_same (λ e. suits s.terms.case.net e.dst e ≡ true) (λ e. not (e.dst == r)) s.pending whole.pending)
      (rising_part s.terms.case whole.case (λ e. not (e.src == r)) s.held whole.held)

  pub latest_left : (time : ℕ) → HasHandledTo time s → HasHandledTo time after_leaving
  latest_left time all q ours =
      subst (λ (t : Timeline). AllByRecursion (λ (e : Event). e.time ≤ time) (history t)) (sym (same_line q ours).1) (all q (owned_before q ours))

  -- where what waits for it stays
  abbrev pub after_taking : Shard
  after_taking = record s { routers = rs; timelines = ts }

  pub is_gone : IsGone r s after_taking
  is_gone = record { routers = has_left.routers; timelines = has_left.timelines; rest = refl }

  pub whole_taken : IsSoundShard after_taking
  whole_taken = whole_with s.pending s.kept s.held whole.pending whole.held

  pub latest_taken : (time : ℕ) → HasHandledTo time s → HasHandledTo time after_taking
  latest_taken time all q ours = latest_left time all q ours

-- ---- the shard to which it comes

module _ (s t : Shard) (r : ℕ) (giver : IsSoundShard s) (mine : owns s r ≡ true) (whole : IsSoundShard t) (new : owns t r ≡ false) (case : t.terms.case ≡ s.terms.case) (retains : t.terms.retains ≡ s.terms.retains) where
  abbrev pub after_coming : Shard
  after_coming = record t {
    routers = t.routers ++ r ∷ [];
    timelines = t.timelines ++ timeline s r ∷ [];
    pending = insert_all event_before (for_router r s.pending) t.pending;
    kept = insert_all event_before (for_router r s.kept) t.kept;
    held = insert_all event_before (sent_by r s.held) t.held;
    bound = max t.bound s.bound;
  }

  abbrev lines : List Timeline
  lines = t.timelines ++ timeline s r ∷ []

  line_of_other : (q : ℕ) → owns t q ≡ true → (place after_coming q < length lines) × (timeline after_coming q ≡ timeline t q)
  line_of_other q ours =
      let place = place_kept t.routers r whole.apart new q ours in
      let within = (whole.routers q ours).within in
      let long = length-append t.timelines (timeline s r ∷ []) in
      (omega arith, ap (λ k. get_or lines k no_timeline) place ∙ get_or_append_left t.timelines (timeline s r ∷ []) no_timeline (place_in t.routers q) within)

  line_of_new : (place after_coming r < length lines) × (timeline after_coming r ≡ timeline s r)
  line_of_new =
      let place : place after_coming r ≡ length t.timelines = place_last t.routers r whole.apart new ∙ sym whole.long in
      let long = length-append t.timelines (timeline s r ∷ []) in
      (omega arith, ap (λ k. get_or lines k no_timeline) place ∙ get_or-append_seam t.timelines (timeline s r) [] no_timeline)

  pub has_come : HasMovedIn r s t after_coming
  has_come = record {
    routers = has_added t.routers r whole.apart new;
    moved = line_of_new.1;
    others = λ q ours. (line_of_other q ours).1;
    pending = refl;
    kept = refl;
    held = refl;
    outgoing = refl;
    bound = refl;
    terms = refl;
  }

  new_there : HasTimeline after_coming r
  new_there =
      let at = giver.routers r mine in
      let line = line_of_new in
      record {
        known = subst (λ c. r < c.net.nodes) (sym case) at.known;
        within = line.0;
        net = ap (λ t. t.net) line.1 ∙ (at.net ∙ ap (λ c. c.net) (sym case));
        node = ap (λ t. t.node) line.1 ∙ at.node;
        done = let same = ap (λ t. t.done) line.1 in let least = at.done in omega arith;
        case = ap (λ t. t.case) line.1 ∙ (at.case ∙ sym case);
        retains = ap (λ t. t.retains) line.1 ∙ (at.retains ∙ sym retains);
      }

  other_there : (q : ℕ) → owns t q ≡ true → HasTimeline after_coming q
  other_there q ours =
      let at = whole.routers q ours in
      let line = line_of_other q ours in
      record {
        known = at.known;
        within = line.0;
        net = ap (λ t. t.net) line.1 ∙ at.net;
        node = ap (λ t. t.node) line.1 ∙ at.node;
        done = let same = ap (λ t. t.done) line.1 in let least = at.done in omega arith;
        case = ap (λ t. t.case) line.1 ∙ at.case;
        retains = ap (λ t. t.retains) line.1 ∙ at.retains;
      }

  -- its routers are those that it had, and the new one
  each_owned : (P : ℕ → Timeline → Type 0) → ((q : ℕ) → owns t q ≡ true → P q (timeline t q)) → P r (timeline s r)
      → (q : ℕ) → owns after_coming q ≡ true → P q (timeline after_coming q)
  each_owned P old here q ours =
      elim (cases_Bool (owns t q)) [
        | inl there ↦ subst (P q) (sym (line_of_other q there).1) (old q there)
        | inr none ↦ elim (cases_eq q r) [
          | inl same ↦ subst (λ p. P p (timeline after_coming p)) (sym same) (subst (P r) (sym line_of_new.1) here)
          | inr apart ↦ absurd (false≢true (sym (has_added t.routers r whole.apart new q ∙ (ap (λ b. b || (q == r)) none ∙ ne_eqb q r apart)) ∙ ours))
        ]
      ]

  pub latest_come : (a b time : ℕ) → a ≤ time → b ≤ time → HasHandledTo a s → HasHandledTo b t → HasHandledTo time after_coming
  latest_come a b time first second giving having =
      each_owned (λ q line. AllByRecursion (λ (e : Event). e.time ≤ time) (history line)) (λ q own. until_later b time (history (timeline t q)) second (having q own))
      (until_later a time (history (timeline s r)) first (giving r mine))

  pub whole_come : IsSoundShard after_coming
  whole_come = record {
    case = whole.case;
    worker = whole.worker;
    apart = apart_added t.routers r whole.apart new;
    long = let a = length-append t.timelines (timeline s r ∷ []) in let b = length-append t.routers (r ∷ []) in let c = whole.long in omega arith;
    routers = λ q ours. elim (cases_Bool (owns t q)) [
      | inl there ↦ other_there q there
      | inr none ↦ elim (cases_eq q r) [
        | inl same ↦ subst (HasTimeline after_coming) (sym same) new_there
        | inr apart ↦ absurd (false≢true (sym (has_added t.routers r whole.apart new q ∙ (ap (λ b. b || (q == r)) none ∙ ne_eqb q r apart)) ∙ ours))
      ]
    ];
    pending = all_inserted (λ e. suits t.terms.case.net e.dst e ≡ true) (for_router r s.pending) t.pending
        (all-filter event_before event_same (λ e. suits t.terms.case.net e.dst e ≡ true) (λ e. e.dst == r) s.pending
        (subst (λ c. AllByRecursion (λ e. suits c.net e.dst e ≡ true) s.pending) (sym case) giver.pending)) whole.pending;
    held = rising-insert_all event_before event_same event_law (sent_by r s.held) t.held whole.held;
  }
