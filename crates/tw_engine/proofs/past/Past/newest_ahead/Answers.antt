use Rattle.std.proofs.Common.{◌≡◌, true, option_map, reverse, slice_get, ap, sym, ◌∙◌, subst}
use Rattle.std.proofs.lemmas.Option.{slice_get-map}
use Rattle.tw_engine.proofs.Newest.{newest_own}
use Rattle.tw_process.specs.Behaviour.{simulation_of}
use Rattle.tw_engine.proofs.past.Past.newest_ahead.Goals as goal

pub returns-clause-value : goal.returns-clause-value
returns-clause-value g c =
    let steps = c.self.inside.steps.items in
    ap (option_map (λ d. d.event)) (c.in_ok-done.ensures ∙ ap (λ xs. slice_get (reverse xs) 0) c.deref.ensures.value)
    ∙ (sym (slice_get-map (λ d. d.event) (reverse steps) 0) ∙ ap (λ p. slice_get p.ahead 0) c.self.view_is)

pub returns-clause-own : goal.returns-clause-own
returns-clause-own g c =
    let a = c.self.inside in
    let sim = λ (model : g.row.M.Denot). simulation_of g.M.Event.Timed.parts g.M.Event.Ord.cmp (g.M.ProcessModel.behaviour model) in
    let d = c.in_ok-done.done in
    subst (λ p. ((sim p.model).dst d.event ≡ p.number) × ((sim p.model).suits d.event ≡ true)) c.self.view_is
    (newest_own (sim a.model.now) (g.M.ProcessModel.behaviour a.model.now).latest (g.M.ProcessModel.is_note a.model.now) a.number a.committed.past (reverse a.steps.items) d
    (sym (c.in_ok-done.ensures ∙ ap (λ xs. slice_get (reverse xs) 0) c.deref.ensures.value)) c.self.invariant.1.noted)
