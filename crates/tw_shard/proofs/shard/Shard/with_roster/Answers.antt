use Rattle.std.proofs.Common.{◌≡◌, ◌<◌, ℕ, List, [], filter, map, refl, subst, sym, ap, ◌∙◌}
use Rattle.tw_event.specs.declared.event.Event.{Event}
use Rattle.tw_event.specs.Order.{event_before}
use Rattle.tw_model.specs.Case.{IsCase, opening_events}
use Rattle.tw_shard.specs.Parts.{quiet_shard}
use Rattle.tw_shard.specs.Roster.{StandOnce, StandsInList, has}
use Rattle.tw_shard.specs.Shard.{IsOpeningBy, Terms}
use Rattle.tw_shard.specs.Timeline.{Timeline, opening_timeline}
use Rattle.tw_shard.proofs.Openings.{IsBegun, latest_begun, opening, whole_begun}
use Rattle.tw_shard.proofs.Rosters.{all_standing}
use Rattle.tw_sim.specs.Ordered.{insert_all}
use Rattle.tw_shard.proofs.shard.Shard.with_roster.Goals as goal

pub opening_timelines-requires : goal.opening_timelines-requires
opening_timelines-requires c =
    let rs = c.routers.ensures.value in
    all_standing (λ r. r < c.args.case.now.net.nodes) c.routers.result.now
    (λ k r at. subst (λ n. r < n) c.requires.count (c.routers.ensures.roster.known k r (subst (λ rs. StandsInList rs k r) rs at)))

-- parts that make a shard as it begins
quiet_begun : (terms : Terms) (rs : List ℕ) (lines : List Timeline) (pending kept : List Event) → IsCase terms.case → terms.worker < terms.workers
    → ((k r : ℕ) → StandsInList rs k r → r < terms.case.net.nodes) → StandOnce rs → lines ≡ map (opening_timeline terms.case terms.retains) rs
    → pending ≡ insert_all event_before (filter (λ e. has rs e.dst) (opening_events terms.case.scenes)) [] → kept ≡ []
    → IsBegun (quiet_shard terms 0 rs lines pending kept)
quiet_begun terms rs lines pending kept case worker known apart are waits none = record {
  case = case;
  worker = worker;
  known = known;
  apart = apart;
  timelines = are;
  pending = waits;
  kept = none;
  outgoing = refl;
  held = refl;
  bound = refl;
}

pub of_parts-requires : goal.of_parts-requires
of_parts-requires c =
    let terms : Terms = record { case = c.args.case.now; worker = c.args.worker; workers = c.args.workers; retains = c.args.retains; cancel = c.args.cancel } in
    let rs = c.args.roster.routers in
    let nodes = c.nodes.ensures.value ∙ ap (λ net. net.nodes) c.instance.ensures.value in
    let is = quiet_begun terms rs c.in_ok-timelines.timelines.items c.in_ok-pending.pending.events c.in_ok-kept.kept.events c.instance.ensures.case c.requires.worker
    (λ k r at. subst (λ n. r < n) c.requires.count (c.routers.ensures.roster.known k r at)) c.routers.ensures.roster.apart
    (c.in_ok-timelines.ensures ∙ ap (map (opening_timeline terms.case terms.retains)) c.routers.ensures.value) c.in_ok-pending.ensures.events c.in_ok-kept.ensures.empty in
    let s = quiet_shard terms 0 rs c.in_ok-timelines.timelines.items c.in_ok-pending.pending.events c.in_ok-kept.kept.events in
    record {
      whole = whole_begun s is;
      latest = latest_begun s is;
      count = c.requires.count;
      waiting = c.in_ok-pending.ensures.routers;
      keeping = c.in_ok-kept.ensures.routers ∙ nodes;
    }

pub returns : goal.returns
returns c = λ who order.
    let terms : Terms = record { case = c.args.case.now; worker = c.args.worker; workers = c.args.workers; retains = c.args.retains; cancel = c.args.cancel } in
    let rs = c.args.roster.routers in
    let is = quiet_begun terms rs c.in_ok-timelines.timelines.items c.in_ok-pending.pending.events c.in_ok-kept.kept.events c.instance.ensures.case c.requires.worker
    (λ k r at. subst (λ n. r < n) c.requires.count (c.routers.ensures.roster.known k r at)) c.routers.ensures.roster.apart
    (c.in_ok-timelines.ensures ∙ ap (map (opening_timeline terms.case terms.retains)) c.routers.ensures.value) c.in_ok-pending.ensures.events c.in_ok-kept.ensures.empty in
    subst (IsOpeningBy terms.case who terms.worker terms.workers terms.retains terms.cancel) (sym c.of_parts.ensures)
    (opening (quiet_shard terms 0 rs c.in_ok-timelines.timelines.items c.in_ok-pending.pending.events c.in_ok-kept.kept.events) is who order)
