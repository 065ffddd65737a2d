use Rattle.std.proofs.Common.{◌≡◌, ◌++◌, reverse, slice_get, ap, sym, ◌∙◌}
use Rattle.tw_engine.specs.Past.{committed_after, events_of}
use Rattle.tw_engine.proofs.Turns.{committed_more}
use Rattle.tw_process.specs.Behaviour.{simulation_of}
use Rattle.tw_engine.proofs.committed.Committed.add_steps.Goals as goal

pub invariant_of-self-2 : goal.invariant_of-self-2
invariant_of-self-2 g c =
    let a = c.self.inside in
    let m = simulation_of g.M.Event.Timed.parts g.M.Event.Ord.cmp (g.M.ProcessModel.behaviour a.model.now) in
    let steps = c.args.steps.now in
    let gone : c.add_events.new.events.items ≡ a.later.items ++ events_of steps = c.add_events.ensures ∙ ap (λ xs. xs ++ events_of steps) c.in_ok-reserve.ensures.items in
    c.newest_of-self-inside.ensures (committed_after m a.number a.base.since a.base.turns a.later.items) c.self.invariant
    ∙ ap (λ l. slice_get l 0) (sym (committed_more m a.number a.base.since a.base.turns a.later.items c.add_events.new.events.items steps gone))

pub returns-clause-ok : goal.returns-clause-ok
returns-clause-ok g c =
    let a = c.self.inside in
    let m = simulation_of g.M.Event.Timed.parts g.M.Event.Ord.cmp (g.M.ProcessModel.behaviour a.model.now) in
    let steps = c.args.steps.now in
    let gone : c.add_events.new.events.items ≡ a.later.items ++ events_of steps = c.add_events.ensures ∙ ap (λ xs. xs ++ events_of steps) c.in_ok-reserve.ensures.items in
    let more = committed_more m a.number a.base.since a.base.turns a.later.items c.add_events.new.events.items steps gone in
    (λ i. record { model = a.model.now; number = a.number; past = more i }) ∙ (λ i. record (c.self.view_is i) { past = events_of (reverse steps) ++ (c.self.view_is i).past })
