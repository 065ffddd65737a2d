use Rattle.std.proofs.Common.{◌≡◌, refl, ap, sym, ◌∙◌, ◌∷◌, ◌++◌, map, subst, true, set, get_or, slice_get, arith}
use Rattle.std.specs.List.{AllByRecursion}
use Rattle.tw_core.specs.Steps.{still_held, to_send}
use Rattle.tw_event.specs.Order.{event_before, event_same}
use Rattle.tw_handlers.specs.Calls.{is_full_at}
use Rattle.tw_model.specs.Case.{Case, simulation}
use Rattle.tw_model.specs.Effect.{fits, suits}
use Rattle.tw_shard.specs.Inside.{HasHandledTo, shard_of}
use Rattle.tw_shard.specs.Shard.{IsSoundShard, Shard, handled_at, no_timeline, owns, place, timeline}
use Rattle.tw_shard.proofs.Fields.{changed_shard, other_items, read_here}
use Rattle.tw_shard.specs.Timeline.{Timeline, history, router_of, sends_after, signed}
use Rattle.tw_shard.proofs.Holding.{rising-still_held}
use Rattle.tw_shard.proofs.Latest.{until_later}
use Rattle.tw_shard.proofs.Queues.{head_out, suit_without}
use Rattle.tw_sim.specs.Ordered.{take_out}
use Rattle.tw_sim.specs.Rising.{IsRising}
use Rattle.tw_shard.proofs.shard.Shard.step_first.Goals as goal

pub handle_at-requires-clause-fits : goal.handle_at-requires-clause-fits
handle_at-requires-clause-fits c =
    let x = c.args.self.now in
    let r = c.args.event.now.dst in
    let e = c.args.event.now in
    let own = c.place-place.ensures.whole.routers r c.requires.own in
    let here = read_here c.self.inside x r c.place-place.result c.deref_mut.result.now c.self.view_is c.place-place.ensures.value c.deref_mut.ensures.value in
    (λ i. fits (here i).net (here i).node e) ∙ ((λ i. fits (own.net i) (own.node i) e) ∙ c.requires.fits)

pub returns-clause-full : goal.returns-clause-full
returns-clause-full c =
    let x = c.args.self.now in
    let r = c.args.event.now.dst in
    let is_full = λ (t : Timeline). is_full_at (router_of t) c.args.event.now ≡ true in
    let here = read_here c.self.inside x r c.place-place.result c.deref_mut.result.now c.self.view_is c.place-place.ensures.value c.deref_mut.ensures.value in
    let full = c.in_ok-handle_at.ensures.full in
    ((λ h. subst is_full here (full.0 h)), (λ h. full.1 (subst is_full (sym here) h)))

pub invariant_of-self : goal.invariant_of-self
invariant_of-self c =
    let a = c.self.inside in
    let timelines =
    other_items a.timelines.len c.handle_at.new.timelines _ (c.handle_at.auto.timelines ∙ c.deref_mut.ensures.len)
    ∙ (c.in_err-handle_at.ensures.err ∙ c.deref_mut.ensures.value) in
    let same : ◌≡◌ {A = Shard} _ (shard_of a) = λ i. record (shard_of a) { timelines = timelines i; outgoing = c.in_err-handle_at.ensures.unsent i; held = c.in_err-handle_at.ensures.unheld i } in
    let is = c.self.invariant in
    record {
      whole = subst IsSoundShard (sym same) is.whole;
      roster = is.roster;
      pending = is.pending;
      kept = is.kept;
      held = c.in_err-handle_at.ensures.routers ∙ is.held;
      latest = subst (HasHandledTo a.latest) (sym same) is.latest;
    }

pub invariant_of-self-2 : goal.invariant_of-self-2
invariant_of-self-2 c =
    let a = c.self.inside in
    let s = shard_of a in
    let r = c.args.event.now.dst in
    let e = c.args.event.now in
    let without : c.skip_least.new.self.events ≡ take_out event_same e a.pending.events =
    c.skip_least.ensures.events ∙ head_out e a.pending.events (ap (λ s. slice_get s.pending 0) c.self.view_is ∙ c.requires.first) in
    let mine : owns s r ≡ true = subst (λ s. owns s r ≡ true) (sym c.self.view_is) c.requires.own in
    let own = c.self.invariant.whole.routers r mine in
    let at : c.place-place.result ≡ place s r = c.place-place.ensures.value ∙ ap (λ s. place s r) (sym c.self.view_is) in
    let there : get_or c.deref_mut.result.now c.place-place.result no_timeline ≡ timeline s r = λ i. get_or (c.deref_mut.ensures.value i) (at i) no_timeline in
    changed_shard a _ r (record (timeline s r) { ahead = e ∷ (timeline s r).ahead }) c.self.invariant mine (record {
      terms = refl;
      roster = refl;
      timelines =
          other_items a.timelines.len c.handle_at.new.timelines _ (c.handle_at.auto.timelines ∙ c.deref_mut.ensures.len)
          ∙ (c.in_ok-handle_at.ensures.ok ∙ λ i. set (c.deref_mut.ensures.value i) (at i) (record (there i) { ahead = e ∷ (there i).ahead }));
      kept = refl;
      bound = refl;
      pending_routers = c.skip_least.ensures.routers;
      kept_routers = refl;
      held_routers = c.in_ok-handle_at.ensures.routers;
    }) own.net own.node own.done own.case own.retains
    (subst (AllByRecursion (λ x. suits s.terms.case.net x.dst x ≡ true)) (sym without)
    (suit_without s.terms.case.net e a.pending.events c.self.invariant.whole.pending))
    (subst (IsRising event_before event_same) (sym c.in_ok-handle_at.ensures.held)
    (let t = get_or c.deref_mut.result.now c.place-place.result no_timeline in
    rising-still_held t.case (sends_after t (history t) e) a.held.events c.self.invariant.whole.held))
    (let later = c.max-self-inside.ensures in omega arith)
    ((let later = c.max-self-inside.ensures in omega arith), until_later a.latest c.max-self-inside.result (history (timeline s r)) (let later = c.max-self-inside.ensures in omega arith) (c.self.invariant.latest r mine))

pub returns-clause-ok : goal.returns-clause-ok
returns-clause-ok c =
    let a = c.self.inside in
    let s = shard_of a in
    let r = c.args.event.now.dst in
    let e = c.args.event.now in
    let without : c.skip_least.new.self.events ≡ take_out event_same e a.pending.events =
    c.skip_least.ensures.events ∙ head_out e a.pending.events (ap (λ s. slice_get s.pending 0) c.self.view_is ∙ c.requires.first) in
    let mine : owns s r ≡ true = subst (λ s. owns s r ≡ true) (sym c.self.view_is) c.requires.own in
    let same : (timeline s r).case ≡ s.terms.case = (c.self.invariant.whole.routers r mine).case in
    let at : c.place-place.result ≡ place s r = c.place-place.ensures.value ∙ ap (λ s. place s r) (sym c.self.view_is) in
    let there : get_or c.deref_mut.result.now c.place-place.result no_timeline ≡ timeline s r = λ i. get_or (c.deref_mut.ensures.value i) (at i) no_timeline in
    let timelines =
    other_items a.timelines.len c.handle_at.new.timelines _ (c.handle_at.auto.timelines ∙ c.deref_mut.ensures.len)
    ∙ (c.in_ok-handle_at.ensures.ok ∙ λ i. set (c.deref_mut.ensures.value i) (at i) (record (there i) { ahead = e ∷ (there i).ahead })) in
    let sent = λ (case : Case) (t : Timeline). a.outgoing.items ++ map (signed true) (to_send (simulation case) (sends_after t (history t) e) a.held.events) in
    let outgoing = c.in_ok-handle_at.ensures.sends ∙ ((λ i. sent (there i).case (there i)) ∙ ap (λ case. sent case (timeline s r)) same) in
    let left = λ (case : Case) (t : Timeline). still_held (simulation case) (sends_after t (history t) e) a.held.events in
    let held = c.in_ok-handle_at.ensures.held ∙ ((λ i. left (there i).case (there i)) ∙ ap (λ case. left case (timeline s r)) same) in
    (λ i. record {
      terms = s.terms;
      routers = a.roster.routers;
      timelines = timelines i;
      pending = without i;
      kept = a.kept.events;
      outgoing = outgoing i;
      held = held i;
      bound = a.bound;
    })
    ∙ ap (λ s. handled_at s r e) c.self.view_is
