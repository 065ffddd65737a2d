use Rattle.std.proofs.Common.{◌≡◌, ◌<◌, ◌≤◌, arith, length, refl, ap, sym, ◌∙◌, subst, true, set, get_or, ◌++◌}
use Rattle.std.specs.Vec.{with_items}
use Rattle.std.specs.List.{AllByRecursion}
use Rattle.tw_core.specs.Steps.{held_back, sent_back}
use Rattle.tw_event.specs.Order.{event_before, event_same}
use Rattle.tw_model.specs.Case.{Case, simulation}
use Rattle.tw_sim.specs.Ordered.{insert}
use Rattle.tw_sim.specs.Rising.{IsRising}
use Rattle.tw_sim.proofs.Ordered.{all-insert}
use Rattle.tw_model.specs.Effect.{fits, suits}
use Rattle.tw_model.specs.Rules.{IsNet}
use Rattle.tw_ordered.specs.Queue.{Queue}
use Rattle.tw_shard.specs.declared.shard.Shard.TheInside.{Inside}
use Rattle.tw_shard.specs.Inside.{HasHandledTo, IsShard, shard_of}
use Rattle.tw_shard.specs.Shard.{IsSoundShard, IsUndone, Shard, no_timeline, owns, place, timeline}
use Rattle.tw_shard.specs.Timeline.{Timeline, sends_after}
use Rattle.tw_shard.proofs.Fields.{changed_shard, fits_home, fits_suits, other_items}
use Rattle.tw_shard.proofs.Holding.{rising-held_back}
use Rattle.tw_shard.proofs.shard.Shard.step_back.Goals as goal

pub undo_at-requires-clause-some : goal.undo_at-requires-clause-some
undo_at-requires-clause-some c =
    let a = c.self.inside in
    let r = c.args.router in
    let at : c.place-place.result ≡ place (shard_of a) r = c.place-place.ensures.value in
    let there : get_or c.deref_mut.result.now c.place-place.result no_timeline ≡ timeline (shard_of a) r = λ i. get_or (c.deref_mut.ensures.value i) (at i) no_timeline in
    subst (λ (t : Timeline). 0 < length t.ahead) (sym there) (subst (λ s. 0 < length (timeline s r).ahead) (sym c.self.view_is) c.requires.some)

pub undo_at-requires-clause-net : goal.undo_at-requires-clause-net
undo_at-requires-clause-net c =
    let a = c.self.inside in
    let r = c.args.router in
    let at : c.place-place.result ≡ place (shard_of a) r = c.place-place.ensures.value in
    let there : get_or c.deref_mut.result.now c.place-place.result no_timeline ≡ timeline (shard_of a) r = λ i. get_or (c.deref_mut.ensures.value i) (at i) no_timeline in
    let own = c.self.invariant.whole.routers r (subst (λ s. owns s r ≡ true) (sym c.self.view_is) c.requires.own) in
    subst (λ (t : Timeline). IsNet t.net) (sym there) (subst IsNet (sym own.net) c.self.invariant.whole.case.net)

pub undo_at-requires-clause-routers : goal.undo_at-requires-clause-routers
undo_at-requires-clause-routers c =
    let a = c.self.inside in
    let r = c.args.router in
    let at : c.place-place.result ≡ place (shard_of a) r = c.place-place.ensures.value in
    let there : get_or c.deref_mut.result.now c.place-place.result no_timeline ≡ timeline (shard_of a) r = λ i. get_or (c.deref_mut.ensures.value i) (at i) no_timeline in
    let own = c.self.invariant.whole.routers r (subst (λ s. owns s r ≡ true) (sym c.self.view_is) c.requires.own) in
    c.self.invariant.held ∙ (ap (λ net. net.nodes) (sym own.net) ∙ ap (λ (t : Timeline). t.net.nodes) (sym there))

-- once there is room for one event more, all is as it was
reserved : (a : Inside) (q : Queue) → IsShard a → q.events ≡ a.pending.events → q.routers ≡ a.pending.routers → IsShard (record a { pending = q })
reserved a q is events routers =
    let same : ◌≡◌ {A = Shard} (record (shard_of a) { pending = q.events }) (shard_of a) = λ i. record (shard_of a) { pending = events i } in
    record {
      whole = subst IsSoundShard (sym same) is.whole;
      roster = is.roster;
      pending = routers ∙ is.pending;
      kept = is.kept;
      held = is.held;
      latest = subst (HasHandledTo a.latest) (sym same) is.latest;
    }

pub invariant_of-self : goal.invariant_of-self
invariant_of-self c = reserved c.self.inside c.reserve.new.self c.self.invariant c.reserve.ensures.events c.reserve.ensures.routers

pub invariant_of-self-2 : goal.invariant_of-self-2
invariant_of-self-2 c = reserved c.self.inside c.reserve.new.self c.self.invariant c.reserve.ensures.events c.reserve.ensures.routers

pub invariant_of-self-3 : goal.invariant_of-self-3
invariant_of-self-3 c =
    let a = c.self.inside in
    let s = shard_of a in
    let r = c.args.router in
    let e = c.in_ok-event.event in
    let mine : owns s r ≡ true = subst (λ s. owns s r ≡ true) (sym c.self.view_is) c.requires.own in
    let own = c.self.invariant.whole.routers r mine in
    let at : c.place-place.result ≡ place s r = c.place-place.ensures.value in
    let there : get_or c.deref_mut.result.now c.place-place.result no_timeline ≡ timeline s r = λ i. get_or (c.deref_mut.ensures.value i) (at i) no_timeline in
    let undone = c.in_ok-event.ensures.ok in
    let fit : fits (timeline s r).net (timeline s r).node e ≡ true = subst (λ (t : Timeline). fits t.net t.node e ≡ true) there c.in_ok-event.ensures.fits in
    let suit : suits s.terms.case.net e.dst e ≡ true = subst (λ net. suits net e.dst e ≡ true) own.net (fits_suits (timeline s r).net (timeline s r).node e fit) in
    let inserted : c.insert.new.self.events ≡ insert event_before e c.reserve.new.self.events = rw c.unwrap.ensures at c.insert.ensures.ok in
    let pending : c.insert.new.self.events ≡ insert event_before e a.pending.events = inserted ∙ ap (insert event_before e) c.reserve.ensures.events in
    changed_shard a _ r (record (timeline s r) { ahead = undone.0 }) c.self.invariant mine (record {
      terms = refl;
      roster = refl;
      timelines =
          other_items a.timelines.len c.undo_at.new.timelines _ (c.undo_at.auto.timelines ∙ c.deref_mut.ensures.len)
          ∙ (undone.2 ∙ λ i. set (c.deref_mut.ensures.value i) (at i) (record (there i) { ahead = undone.0 }));
      kept = refl;
      bound = refl;
      pending_routers = c.insert.ensures.routers ∙ c.reserve.ensures.routers;
      kept_routers = refl;
      held_routers = c.in_ok-event.ensures.routers;
    }) own.net own.node own.done own.case own.retains
    (subst (AllByRecursion (λ x. suits s.terms.case.net x.dst x ≡ true)) (sym pending)
    (all-insert event_before (λ x. suits s.terms.case.net x.dst x ≡ true) e a.pending.events suit c.self.invariant.whole.pending))
    (subst (IsRising event_before event_same) (sym undone.4)
    (let t = get_or c.deref_mut.result.now c.place-place.result no_timeline in
    rising-held_back t.case a.cancel (sends_after t (undone.0 ++ t.past) e) a.held.events c.self.invariant.whole.held))
    (omega arith)
    (subst (λ events. AllByRecursion (λ x. x.time ≤ a.latest) (events ++ (timeline s r).past)) (ap (λ t. t.ahead) (sym there) ∙ undone.1) (c.self.invariant.latest r mine)).1

pub returns-clause-ok : goal.returns-clause-ok
returns-clause-ok c =
    let a = c.self.inside in
    let s = shard_of a in
    let r = c.args.router in
    let e = c.in_ok-event.event in
    let mine : owns s r ≡ true = subst (λ s. owns s r ≡ true) (sym c.self.view_is) c.requires.own in
    let own = c.self.invariant.whole.routers r mine in
    let at : c.place-place.result ≡ place s r = c.place-place.ensures.value in
    let there : get_or c.deref_mut.result.now c.place-place.result no_timeline ≡ timeline s r = λ i. get_or (c.deref_mut.ensures.value i) (at i) no_timeline in
    let fit : fits (timeline s r).net (timeline s r).node e ≡ true = subst (λ (t : Timeline). fits t.net t.node e ≡ true) there c.in_ok-event.ensures.fits in
    let undone = c.in_ok-event.ensures.ok in
    let inserted : c.insert.new.self.events ≡ insert event_before e c.reserve.new.self.events = rw c.unwrap.ensures at c.insert.ensures.ok in
    let pending = inserted ∙ ap (insert event_before e) c.reserve.ensures.events in
    let timelines =
    other_items a.timelines.len c.undo_at.new.timelines _ (c.undo_at.auto.timelines ∙ c.deref_mut.ensures.len)
    ∙ (undone.2 ∙ λ i. set (c.deref_mut.ensures.value i) (at i) (record (there i) { ahead = undone.0 })) in
    let back = λ (case : Case) (t : Timeline). sent_back (simulation case) a.cancel (sends_after t (undone.0 ++ t.past) e) in
    let outgoing =
    undone.3 ∙ ((λ i. a.outgoing.items ++ back (there i).case (there i)) ∙ ap (λ case. a.outgoing.items ++ back case (timeline s r)) own.case) in
    let left = λ (case : Case) (t : Timeline). held_back (simulation case) a.cancel (sends_after t (undone.0 ++ t.past) e) a.held.events in
    let held = undone.4 ∙ ((λ i. left (there i).case (there i)) ∙ ap (λ case. left case (timeline s r)) own.case) in
    subst (λ s. IsUndone r s (shard_of (record {
      case = a.case;
      worker = a.worker;
      workers = a.workers;
      roster = a.roster;
      timelines = with_items a.timelines c.undo_at.new.timelines;
      pending = c.insert.new.self;
      kept = a.kept;
      outgoing = c.undo_at.new.outgoing;
      held = c.undo_at.new.held;
      sends = c.undo_at.new.sends;
      latest = a.latest;
      ticks = a.ticks;
      tally = c.count_undone.new.self;
      bound = a.bound;
      retains = a.retains;
      cancel = a.cancel;
    }))) c.self.view_is (
      e,
      undone.0,
      ap (λ t. t.ahead) (sym there) ∙ undone.1,
      fits_home (timeline s r).net (timeline s r).node e fit ∙ own.node,
      λ i. record {
        terms = s.terms;
        routers = a.roster.routers;
        timelines = timelines i;
        pending = pending i;
        kept = a.kept.events;
        outgoing = outgoing i;
        held = held i;
        bound = a.bound;
      },
    )
