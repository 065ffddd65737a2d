-- What a shard leaves where it takes back what a router holds.
use Rattle.std.proofs.Common.{◌≡◌, ℕ, ◌==◌, Bool, not, true, false, List, [], ◌++◌, filter, length, map, ap, sym, ◌∙◌, subst, Ok, Err, if◌then◌else◌}
use Rattle.std.proofs.lemmas.List.{append-nil}
use Rattle.tw_core.specs.declared.refusal.Refusal.TheVariants.{NotMine}
use Rattle.tw_core.specs.Steps.{with_release}
use Rattle.tw_event.specs.declared.event.Event.{Event}
use Rattle.tw_event.specs.Order.{event_before, event_same}
use Rattle.tw_model.specs.Case.{Case, IsCase, simulation}
use Rattle.tw_model.proofs.Lawful.{lawful}
use Rattle.tw_ordered.proofs.Released.{no_length, none_passes}
use Rattle.tw_shard.specs.declared.shard.Shard.TheInside.{Inside}
use Rattle.tw_shard.specs.Inside.{IsShard}
use Rattle.tw_shard.specs.Shard.{Shard, owns, released_at, releasing, shard_core}
use Rattle.tw_shard.specs.Timeline.{signed}
use Rattle.tw_sim.specs.Rising.{IsRising}
use Rattle.tw_sim.proofs.Rising.{rising-filter}

-- a shard with other lists of what is sent and held
pub sent_shard : (a b : Inside) → IsShard a → b ≡ record a { outgoing = b.outgoing; held = b.held; tally = b.tally } → b.held.routers ≡ a.held.routers
    → IsRising event_before event_same b.held.events → IsShard b
sent_shard a b is same routers rising = subst IsShard (sym same) (record {
  whole = record {
    case = is.whole.case;
    worker = is.whole.worker;
    apart = is.whole.apart;
    long = is.whole.long;
    routers = λ r own. let at = is.whole.routers r own in record { known = at.known; within = at.within; net = at.net; node = at.node; done = at.done; case = at.case; retains = at.retains };
    pending = is.whole.pending;
    held = rising;
  };
  roster = is.roster;
  pending = is.pending;
  kept = is.kept;
  held = routers ∙ is.held;
  latest = is.latest;
})

-- of events in order, those that pass a test are in order
pub rising_part : (case : Case) → IsCase case → (p : Event → Bool) (events : List Event) → IsRising event_before event_same events
    → IsRising event_before event_same (filter p events)
rising_part case is p events rising = rising-filter (simulation case) (lawful case is) p events rising

-- where a router holds nothing, nothing changes
pub none_released : (s : Shard) (r : ℕ) → length (filter (λ e. e.src == r) s.held) ≡ 0 → s ≡ released_at s r
none_released s r none =
    let nothing : filter (λ e. e.src == r) s.held ≡ [] = no_length (filter (λ e. e.src == r) s.held) none in
    let sent : s.outgoing ≡ s.outgoing ++ map (signed false) (filter (λ e. e.src == r) s.held) =
    sym (ap (λ xs. s.outgoing ++ map (signed false) xs) nothing ∙ append-nil s.outgoing) in
    let held : s.held ≡ filter (λ e. not (e.src == r)) s.held = sym (none_passes (λ e. e.src == r) s.held nothing) in
    λ i. record s { outgoing = sent i; held = held i }

-- what the machine does where the router is one of its own
pub releases : (stop : ℕ) (s : Shard) (r : ℕ) → owns s r ≡ true → releasing stop s r ≡ Ok (shard_core stop (released_at s r))
releases stop s r mine = ap (λ b. if b then Ok (with_release (simulation s.terms.case) (shard_core stop s) r) else Err NotMine) mine

-- and where it is not
pub refuses : (stop : ℕ) (s : Shard) (r : ℕ) → owns s r ≡ false → releasing stop s r ≡ Err NotMine
refuses stop s r other = ap (λ b. if b then Ok (with_release (simulation s.terms.case) (shard_core stop s) r) else Err NotMine) other
