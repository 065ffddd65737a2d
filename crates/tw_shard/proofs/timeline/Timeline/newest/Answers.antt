use Rattle.std.proofs.Common.{◌<◌, ◌++◌, reverse, slice_get, ap, sym, ◌∙◌, subst}
use Rattle.std.specs.List.{AllByRecursion}
use Rattle.tw_shard.specs.Timeline.{Timeline, events_of, history}
use Rattle.tw_shard.proofs.Rings.{newest_is, none_last}
use Rattle.tw_shard.proofs.timeline.Timeline.newest.Goals as goal

pub returns-in-Some-clause-value : goal.returns-in-Some-clause-value
returns-in-Some-clause-value c =
    let a = c.self.inside in
    newest_is a.ahead c.in-Some.handled.now a.past.events (sym c.in-Some.ensures) ∙ ap (λ (t : Timeline). slice_get (history t) 0) c.self.view_is

pub returns-in-Some-clause-past : goal.returns-in-Some-clause-past
returns-in-Some-clause-past c = subst (λ (t : Timeline). AllByRecursion (λ e. e.time < t.done) t.past) c.self.view_is c.self.invariant.past

pub returns-in-None-clause-value : goal.returns-in-None-clause-value
returns-in-None-clause-value c =
    let a = c.self.inside in
    c.last-in-None.ensures
    ∙ (ap (λ steps. slice_get (events_of (reverse steps) ++ a.past.events) 0) (sym (none_last a.ahead (sym c.in-None.ensures)))
    ∙ ap (λ (t : Timeline). slice_get (history t) 0) c.self.view_is)

pub returns-in-None-clause-past : goal.returns-in-None-clause-past
returns-in-None-clause-past c = subst (λ (t : Timeline). AllByRecursion (λ e. e.time < t.done) t.past) c.self.view_is c.self.invariant.past
