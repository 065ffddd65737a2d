use Rattle.std.proofs.Common.{◌≡◌, ◌<◌, ◌++◌, ◌∷◌, [], true, false, ap, sym, subst, ◌∙◌, arith}
use Rattle.tw_event.specs.Order.{event_before}
use Rattle.tw_held.specs.Held.{sent_by, sent_by_others}
use Rattle.tw_ordered.specs.Queue.{for_others, for_router}
use Rattle.tw_sim.specs.Ordered.{insert_all}
use Rattle.tw_shard.specs.Inside.{HasHandledTo, shard_of, terms_of}
use Rattle.tw_shard.specs.Moving.{HasMovedIn, HasMovedOut}
use Rattle.tw_shard.specs.Roster.{has}
use Rattle.tw_shard.specs.Shard.{IsSoundShard, Shard, owns}
use Rattle.tw_shard.proofs.HandingOver.{after_coming, after_leaving, has_come, has_left, latest_come, latest_left, whole_come, whole_left}
use Rattle.tw_shard.proofs.shard.Shard.hand_over_own.Goals as goal

pub take_out-timeline-requires-clause-own : goal.take_out-timeline-requires-clause-own
take_out-timeline-requires-clause-own c = ap (λ s. owns s c.args.router) c.self.view_is ∙ c.requires.own

pub add-requires-clause-known : goal.add-requires-clause-known
add-requires-clause-known c =
    let r = c.args.router in
    let own = c.self.invariant.whole.routers r (ap (λ s. owns s r) c.self.view_is ∙ c.requires.own) in
    let same = ap (λ s. s.terms.case) c.to.view_is ∙ (c.requires.case ∙ ap (λ s. s.terms.case) (sym c.self.view_is)) in
    subst (λ n. r < n) (sym (c.reserve_place.ensures.count ∙ (c.to.invariant.roster ∙ ap (λ case. case.net.nodes) same))) own.known

pub add-requires-clause-new : goal.add-requires-clause-new
add-requires-clause-new c = ap (λ rs. has rs c.args.router) c.reserve_place.ensures.routers ∙ (ap (λ s. owns s c.args.router) c.to.view_is ∙ c.requires.new)

mine : (c : goal.After-count_coming) → owns (shard_of c.self.inside) c.args.router ≡ true
mine c = ap (λ s. owns s c.args.router) c.self.view_is ∙ c.requires.own

new : (c : goal.After-count_coming) → owns (shard_of c.to.inside) c.args.router ≡ false
new c = ap (λ s. owns s c.args.router) c.to.view_is ∙ c.requires.new

same_case : (c : goal.After-count_coming) → (shard_of c.to.inside).terms.case ≡ (shard_of c.self.inside).terms.case
same_case c = ap (λ s. s.terms.case) c.to.view_is ∙ (c.requires.case ∙ ap (λ s. s.terms.case) (sym c.self.view_is))

same_keeps : (c : goal.After-count_coming) → (shard_of c.to.inside).terms.retains ≡ (shard_of c.self.inside).terms.retains
same_keeps c = ap (λ s. s.terms.retains) c.to.view_is ∙ (c.requires.retains ∙ ap (λ s. s.terms.retains) (sym c.self.view_is))

abbrev left : goal.After-count_coming → Shard
left c =
    after_leaving (shard_of c.self.inside) c.args.router c.self.invariant.whole (mine c) c.take_out-timeline.new.roster.routers c.take_out-timeline.new.timelines.items
    c.take_out-timeline.ensures.routers c.take_out-timeline.ensures.timelines

abbrev come : goal.After-count_coming → Shard
come c =
    after_coming (shard_of c.self.inside) (shard_of c.to.inside) c.args.router c.self.invariant.whole (mine c) c.to.invariant.whole (new c) (same_case c) (same_keeps c)

abbrev self_now : goal.After-count_coming → Shard
self_now c = record {
  terms = terms_of c.self.inside;
  routers = c.take_out-timeline.new.roster.routers;
  timelines = c.take_out-timeline.new.timelines.items;
  pending = c.hand_over.new.self.events;
  kept = c.hand_over-2.new.self.events;
  outgoing = c.self.inside.outgoing.items;
  held = c.hand_over-3.new.self.events;
  bound = c.self.inside.bound;
}

abbrev to_now : goal.After-count_coming → Shard
to_now c = record {
  terms = terms_of c.to.inside;
  routers = c.add.new.self.routers;
  timelines = c.push_reserved.new.self.items;
  pending = c.hand_over.new.to.events;
  kept = c.hand_over-2.new.to.events;
  outgoing = c.to.inside.outgoing.items;
  held = c.hand_over-3.new.to.events;
  bound = c.max-to-inside-2.result;
}

pending_left : (c : goal.After-count_coming) → c.hand_over.new.self.events ≡ for_others c.args.router (shard_of c.self.inside).pending
pending_left c = rw c.unwrap.ensures at c.hand_over.ensures.rest

pending_come : (c : goal.After-count_coming) → c.hand_over.new.to.events ≡ insert_all event_before (for_router c.args.router (shard_of c.self.inside).pending) (shard_of c.to.inside).pending
pending_come c = (rw c.unwrap.ensures at c.hand_over.ensures.given) ∙ ap (insert_all event_before (for_router c.args.router (shard_of c.self.inside).pending)) c.reserve_events.ensures.pending

kept_left : (c : goal.After-count_coming) → c.hand_over-2.new.self.events ≡ for_others c.args.router (shard_of c.self.inside).kept
kept_left c = rw c.unwrap-2.ensures at c.hand_over-2.ensures.rest

kept_come : (c : goal.After-count_coming) → c.hand_over-2.new.to.events ≡ insert_all event_before (for_router c.args.router (shard_of c.self.inside).kept) (shard_of c.to.inside).kept
kept_come c = (rw c.unwrap-2.ensures at c.hand_over-2.ensures.given) ∙ ap (insert_all event_before (for_router c.args.router (shard_of c.self.inside).kept)) c.reserve_events.ensures.kept

held_left : (c : goal.After-count_coming) → c.hand_over-3.new.self.events ≡ sent_by_others c.args.router (shard_of c.self.inside).held
held_left c = rw c.unwrap-3.ensures at c.hand_over-3.ensures.rest

held_come : (c : goal.After-count_coming) → c.hand_over-3.new.to.events ≡ insert_all event_before (sent_by c.args.router (shard_of c.self.inside).held) (shard_of c.to.inside).held
held_come c = (rw c.unwrap-3.ensures at c.hand_over-3.ensures.given) ∙ ap (insert_all event_before (sent_by c.args.router (shard_of c.self.inside).held)) c.reserve_events.ensures.held

left_is : (c : goal.After-count_coming) → left c ≡ self_now c
left_is c =
    let s = shard_of c.self.inside in
    λ i. record {
      terms = s.terms;
      routers = c.take_out-timeline.new.roster.routers;
      timelines = c.take_out-timeline.new.timelines.items;
      pending = sym (pending_left c) i;
      kept = sym (kept_left c) i;
      outgoing = s.outgoing;
      held = sym (held_left c) i;
      bound = s.bound;
    }

come_is : (c : goal.After-count_coming) → come c ≡ to_now c
come_is c =
    let s = shard_of c.self.inside in
    let t = shard_of c.to.inside in
    let r = c.args.router in
    let routers = c.add.ensures.routers ∙ ap (λ rs. rs ++ r ∷ []) c.reserve_place.ensures.routers in
    let lines =
    c.push_reserved.ensures.items
    ∙ (λ i. c.reserve_place.ensures.timelines i ++ c.take_out-timeline.ensures.timeline i ∷ []) in
    λ i. record {
      terms = t.terms;
      routers = sym routers i;
      timelines = sym lines i;
      pending = sym (pending_come c) i;
      kept = sym (kept_come c) i;
      outgoing = t.outgoing;
      held = sym (held_come c) i;
      bound = sym c.max-to-inside-2.ensures i;
    }

pub invariant_of-self : goal.invariant_of-self
invariant_of-self c =
    let a = c.self.inside in
    record {
      whole = subst IsSoundShard (left_is c) (whole_left (shard_of a) c.args.router c.self.invariant.whole (mine c) c.take_out-timeline.new.roster.routers c.take_out-timeline.new.timelines.items
          c.take_out-timeline.ensures.routers c.take_out-timeline.ensures.timelines);
      roster = c.take_out-timeline.ensures.count ∙ c.self.invariant.roster;
      pending = c.hand_over.ensures.routers ∙ c.self.invariant.pending;
      kept = c.hand_over-2.ensures.routers ∙ c.self.invariant.kept;
      held = c.hand_over-3.ensures.routers ∙ c.self.invariant.held;
      latest = subst (HasHandledTo a.latest) (left_is c) (latest_left (shard_of a) c.args.router c.self.invariant.whole (mine c) c.take_out-timeline.new.roster.routers c.take_out-timeline.new.timelines.items
          c.take_out-timeline.ensures.routers c.take_out-timeline.ensures.timelines a.latest c.self.invariant.latest);
    }

pub invariant_of-to-2 : goal.invariant_of-to-2
invariant_of-to-2 c =
    record {
      whole = subst IsSoundShard (come_is c) (whole_come (shard_of c.self.inside) (shard_of c.to.inside) c.args.router c.self.invariant.whole (mine c) c.to.invariant.whole (new c) (same_case c) (same_keeps c));
      roster = c.add.ensures.count ∙ (c.reserve_place.ensures.count ∙ c.to.invariant.roster);
      pending = c.hand_over.ensures.to_routers ∙ (c.reserve_events.ensures.pending_routers ∙ c.to.invariant.pending);
      kept = c.hand_over-2.ensures.to_routers ∙ (c.reserve_events.ensures.kept_routers ∙ c.to.invariant.kept);
      held = c.hand_over-3.ensures.to_routers ∙ (c.reserve_events.ensures.held_routers ∙ c.to.invariant.held);
      latest = subst (HasHandledTo c.max-to-inside.result) (come_is c) (latest_come (shard_of c.self.inside) (shard_of c.to.inside) c.args.router c.self.invariant.whole (mine c) c.to.invariant.whole (new c) (same_case c) (same_keeps c)
          c.self.inside.latest c.to.inside.latest c.max-to-inside.result (let later = c.max-to-inside.ensures in omega arith) (let later = c.max-to-inside.ensures in omega arith) c.self.invariant.latest c.to.invariant.latest);
    }

pub returns-clause-left : goal.returns-clause-left
returns-clause-left c =
    subst (λ s. HasMovedOut c.args.router s (self_now c)) c.self.view_is
    (subst (HasMovedOut c.args.router (shard_of c.self.inside)) (left_is c)
    (has_left (shard_of c.self.inside) c.args.router c.self.invariant.whole (mine c) c.take_out-timeline.new.roster.routers c.take_out-timeline.new.timelines.items
    c.take_out-timeline.ensures.routers c.take_out-timeline.ensures.timelines))

pub returns-clause-came : goal.returns-clause-came
returns-clause-came c =
    subst (λ s. HasMovedIn c.args.router s c.args.to.now (to_now c)) c.self.view_is
    (subst (λ t. HasMovedIn c.args.router (shard_of c.self.inside) t (to_now c)) c.to.view_is
    (subst (HasMovedIn c.args.router (shard_of c.self.inside) (shard_of c.to.inside)) (come_is c)
    (has_come (shard_of c.self.inside) (shard_of c.to.inside) c.args.router c.self.invariant.whole (mine c) c.to.invariant.whole (new c) (same_case c) (same_keeps c))))
