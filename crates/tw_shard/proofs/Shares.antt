-- What a change at one router of a shard leaves.
use Rattle.std.proofs.Common.{◌≡◌, ℕ, ◌≤◌, true, List, [], ◌∷◌, Some, set, slice_get, refl, ap, sym, ◌∙◌, subst, inl, inr, arith, length-set, if◌then◌else◌}
use Rattle.std.specs.List.{AllByRecursion}
use Rattle.std.proofs.Math.Path.{fun_ext}
use Rattle.std.proofs.lemmas.Bool.{cases_Bool, cases_eq, eq-eqb, ne_eqb}
use Rattle.std.proofs.lemmas.List.{get_or-set_other, get_or-set_same}
use Rattle.tw_core.specs.Steps.{put}
use Rattle.tw_event.specs.declared.event.Event.{Event}
use Rattle.tw_event.specs.Order.{event_before, event_same}
use Rattle.tw_model.specs.Case.{Case, simulation}
use Rattle.tw_model.specs.Effect.{effect, suits}
use Rattle.tw_model.specs.State.{State}
use Rattle.tw_shard.specs.Shard.{IsSoundShard, Shard, no_timeline, owns, place, routers, shard_core, timeline}
use Rattle.tw_shard.proofs.Rosters.{all_standing, has_at, listed_at, same_place}
use Rattle.tw_shard.specs.Timeline.{Timeline, history, known, last_change_at, router_of}
use Rattle.tw_sim.specs.declared.machine.Signed.{Signed}
use Rattle.tw_sim.specs.Rising.{IsRising}
use Rattle.tw_sim.specs.Simulation.{state}

-- what a router knows, as the simulation has it
pub known_state : (case : Case) (v : ℕ) (h : List Event) → known case.net v h ≡ state (simulation case) v h
known_state case v [] = refl
known_state case v (e ∷ older) = ap (λ (s : State). (effect case.net e.dst s e).state) (known_state case v older)

-- each of the shard's routers is listed at its place
pub listed : (s : Shard) (r : ℕ) → owns s r ≡ true → slice_get (routers s) (place s r) ≡ Some r
listed s r mine = listed_at s.routers r mine

-- and no other router is
pub all_own : (s : Shard) → AllByRecursion (λ r. owns s r ≡ true) (routers s)
all_own s = all_standing (λ r. owns s r ≡ true) s.routers (has_at s.routers)

-- the shard with another timeline of router r, and other lists
abbrev pub changed : Shard → ℕ → Timeline → List Event → List (Signed Event) → List Event → Shard
changed s r t pending outgoing held = record s { timelines = set s.timelines (place s r) t; pending = pending; outgoing = outgoing; held = held }

module _ (s : Shard) (r : ℕ) (t : Timeline) (pending : List Event) (outgoing : List (Signed Event)) (held : List Event) (whole : IsSoundShard s) (mine : owns s r ≡ true) where
  abbrev after : Shard
  after = changed s r t pending outgoing held

  pub timeline_here : timeline after r ≡ t
  timeline_here = get_or-set_same s.timelines (place s r) t no_timeline (whole.routers r mine).within

  pub timeline_other : (q : ℕ) → owns s q ≡ true → (q ≡ r → ⊥) → timeline after q ≡ timeline s q
  timeline_other q ours apart = get_or-set_other s.timelines (place s r) (place s q) t no_timeline (λ same. apart (same_place s.routers q r ours mine same))

  -- a fact of router r's new timeline and of the others' is one of each
  pub each_timeline : (P : ℕ → Timeline → Type 0) → P r t → ((q : ℕ) → owns s q ≡ true → P q (timeline s q)) → (q : ℕ) → owns s q ≡ true → P q (timeline after q)
  each_timeline P new old q ours =
      elim (cases_eq q r) [
        | inl is ↦ subst (λ p. P p (timeline after p)) (sym is) (subst (P r) (sym timeline_here) new)
        | inr apart ↦ subst (P q) (sym (timeline_other q ours apart)) (old q ours)
      ]

  -- what is read of each router is put at this one
  pub read_put : {A : Type 0} (read : Timeline → A) (none : A)
      → (λ q. if owns after q then read (timeline after q) else none) ≡ put (λ q. if owns s q then read (timeline s q) else none) r (read t)
  read_put read none =
      fun_ext (λ q. elim (cases_eq q r) [
        | inl is ↦ subst (λ p. (if owns s p then read (timeline after p) else none) ≡ put (λ q. if owns s q then read (timeline s q) else none) r (read t) p) (sym is)
            (rw (mine, eq-eqb r r refl) (ap read timeline_here))
        | inr apart ↦ rw (ne_eqb q r apart) (elim (cases_Bool (owns s q)) [
          | inl ours ↦ rw ours (ap read (timeline_other q ours apart))
          | inr not ↦ rw not refl
        ])
      ])

  -- the shard stays whole
  pub whole_after : t.net ≡ s.terms.case.net → t.node ≡ r → t.done ≤ s.bound → t.case ≡ s.terms.case → t.retains ≡ s.terms.retains → AllByRecursion (λ e. suits s.terms.case.net e.dst e ≡ true) pending
      → IsRising event_before event_same held → IsSoundShard after
  whole_after net node done case retains suit rising = record {
    case = whole.case;
    worker = whole.worker;
    apart = whole.apart;
    long = length-set s.timelines (place s r) t ∙ whole.long;
    routers = λ q ours. record {
      known = (whole.routers q ours).known;
      within = let k = (whole.routers q ours).within in let l = length-set s.timelines (place s r) t in omega arith;
      net = each_timeline (λ p t. t.net ≡ s.terms.case.net) net (λ p h. (whole.routers p h).net) q ours;
      node = each_timeline (λ p t. t.node ≡ p) node (λ p h. (whole.routers p h).node) q ours;
      done = each_timeline (λ p t. t.done ≤ s.bound) done (λ p h. (whole.routers p h).done) q ours;
      case = each_timeline (λ p t. t.case ≡ s.terms.case) case (λ p h. (whole.routers p h).case) q ours;
      retains = each_timeline (λ p t. t.retains ≡ s.terms.retains) retains (λ p h. (whole.routers p h).retains) q ours;
    };
    pending = suit;
    held = rising;
  }

-- putting what is there changes nothing
pub put_same : {A : Type 0} (f : ℕ → A) (r : ℕ) (a : A) → f r ≡ a → put f r a ≡ f
put_same f r a is =
    fun_ext (λ q. elim (cases_eq q r) [
      | inl same ↦ rw (eq-eqb q r same) (sym is ∙ ap f (sym same))
      | inr apart ↦ rw (ne_eqb q r apart) refl
    ])

-- what is read of each router stays, where it is read of this one as before
pub read_same : {A : Type 0} (s : Shard) (r : ℕ) (t : Timeline) (pending : List Event) (outgoing : List (Signed Event)) (held : List Event) → IsSoundShard s → owns s r ≡ true
    → (read : Timeline → A) (none : A) → read t ≡ read (timeline s r)
    → ◌≡◌ {A = ℕ → A} (λ q. if owns (changed s r t pending outgoing held) q then read (timeline (changed s r t pending outgoing held) q) else none)
    (λ q. if owns s q then read (timeline s q) else none)
read_same s r t pending outgoing held whole mine read none same =
    read_put s r t pending outgoing held whole mine read none ∙ put_same (λ q. if owns s q then read (timeline s q) else none) r (read t) (rw mine (sym same))

-- one of its routers, as its history leaves it
pub router_known : (s : Shard) (r : ℕ) → IsSoundShard s → owns s r ≡ true
    → router_of (timeline s r) ≡ record { net = s.terms.case.net; node = r; state = state (simulation s.terms.case) r ((shard_core 0 s).history r) }
router_known s r whole mine =
    let at = whole.routers r mine in
    let here : (shard_core 0 s).history r ≡ history (timeline s r) = rw mine refl in
    λ i. record {
      net = at.net i;
      node = at.node i;
      state = ((λ j. known (at.net j) (at.node j) (history (timeline s r))) ∙ (known_state s.terms.case r (history (timeline s r)) ∙ ap (state (simulation s.terms.case) r) (sym here))) i;
    }

-- and when its path changed last
pub change_known : (s : Shard) (r : ℕ) → IsSoundShard s → owns s r ≡ true
    → last_change_at (timeline s r).net (timeline s r).node (history (timeline s r)) ≡ last_change_at s.terms.case.net r ((shard_core 0 s).history r)
change_known s r whole mine =
    let at = whole.routers r mine in
    let here : (shard_core 0 s).history r ≡ history (timeline s r) = rw mine refl in
    λ i. last_change_at (at.net i) (at.node i) (sym here i)
