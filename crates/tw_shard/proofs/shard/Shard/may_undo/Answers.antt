use Rattle.std.proofs.Common.{◌≡◌, ◌<◌, true, slice_get, Some, ap, sym, ◌∙◌, subst, arith}
use Rattle.std.specs.List.{AllByRecursion}
use Rattle.std.specs.Option.{option_copied}
use Rattle.tw_event.specs.declared.event.Event.{Event}
use Rattle.tw_shard.specs.Shard.{owns, timeline}
use Rattle.tw_shard.specs.Timeline.{Timeline, history}
use Rattle.tw_shard.proofs.Steps.{is_ahead, undo_late, undo_open}
use Rattle.tw_shard.proofs.shard.Shard.may_undo.Goals as goal

pub returns-in-Some-clause-told : goal.returns-in-Some-clause-told
returns-in-Some-clause-told c = λ stop.
    let s = c.args.self.now in
    let mine : owns s c.args.router ≡ true = sym c.owns.ensures.value ∙ c.if-not-owns.false in
    let first : slice_get (history (timeline s c.args.router)) 0 ≡ Some c.in-Some.event.now =
    ap (λ (t : Timeline). slice_get (history t) 0) (sym c.timeline.ensures.value) ∙ (sym c.newest.ensures.value ∙ ap option_copied c.in-Some.is) in
    let early = c.if-event-self.true in
    let bound = ap (λ x. x.bound) c.self.view_is in
    undo_late s c.args.router c.timeline.ensures.whole mine stop c.in-Some.event.now first (omega arith)

pub returns-in-Some-2-clause-told : goal.returns-in-Some-2-clause-told
returns-in-Some-2-clause-told c = λ stop.
    let s = c.args.self.now in
    let mine : owns s c.args.router ≡ true = sym c.owns.ensures.value ∙ c.if-not-owns.false in
    let first : slice_get (history (timeline s c.args.router)) 0 ≡ Some c.in-Some.event.now =
    ap (λ (t : Timeline). slice_get (history t) 0) (sym c.timeline.ensures.value) ∙ (sym c.newest.ensures.value ∙ ap option_copied c.in-Some.is) in
    let late = c.if-event-self.false in
    let bound = ap (λ x. x.bound) c.self.view_is in
    undo_open s c.args.router c.timeline.ensures.whole mine stop c.in-Some.event.now first (omega arith)

pub returns-in-Some-2-clause-some : goal.returns-in-Some-2-clause-some
returns-in-Some-2-clause-some c =
    let s = c.args.self.now in
    let mine : owns s c.args.router ≡ true = sym c.owns.ensures.value ∙ c.if-not-owns.false in
    let first : slice_get (history (timeline s c.args.router)) 0 ≡ Some c.in-Some.event.now =
    ap (λ (t : Timeline). slice_get (history t) 0) (sym c.timeline.ensures.value) ∙ (sym c.newest.ensures.value ∙ ap option_copied c.in-Some.is) in
    let late = c.if-event-self.false in
    let bound = ap (λ x. x.bound) c.self.view_is in
    let within = (c.timeline.ensures.whole.routers c.args.router mine).done in
    let t = timeline s c.args.router in
    is_ahead t.ahead t.past t.done c.in-Some.event.now first
    (subst (λ (t : Timeline). AllByRecursion (λ (e : Event). e.time < t.done) t.past) c.timeline.ensures.value c.newest.ensures.past) (omega arith)
