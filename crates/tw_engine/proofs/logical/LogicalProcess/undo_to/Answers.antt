use Rattle.std.proofs.Common.{◌≡◌, ℕ, max, OnOk, ap, ◌∙◌, subst}
use Rattle.tw_core.specs.Steps.{after_undoing_while}
use Rattle.tw_engine.specs.Process.{history, is_from, process_core}
use Rattle.tw_engine.proofs.Comings.{on_err}
use Rattle.tw_process.specs.Behaviour.{simulation_of}
use Rattle.tw_engine.proofs.logical.LogicalProcess.undo_to.Goals as goal

pub returns-clause-ok : goal.returns-clause-ok
returns-clause-ok g c =
    let o = c.args.self.now in
    let m = simulation_of g.M.Event.Timed.parts g.M.Event.Ord.cmp (g.M.ProcessModel.behaviour c.args.self.now.model) in
    subst (λ t. (stop : ℕ) → OnOk c.undo_all-2.result (process_core stop c.undo_all-2.new.self ≡ after_undoing_while m (is_from m t) o.number (history o) (process_core stop o)))
    (c.max.ensures ∙ ap (λ p. max c.args.time p.bound) c.undo_all.view_is) c.undo_all-2.ensures.ok

pub returns-clause-err : goal.returns-clause-err
returns-clause-err g c = λ stop.
    let o = c.args.self.now in
    let u = c.undo_all-2.new.self in
    let m = simulation_of g.M.Event.Timed.parts g.M.Event.Ord.cmp (g.M.ProcessModel.behaviour c.args.self.now.model) in
    on_err c.undo_all-2.result
    (subst (λ t. after_undoing_while m (is_from m t) o.number (history u) (process_core stop u) ≡ after_undoing_while m (is_from m t) o.number (history o) (process_core stop o))
    (c.max.ensures ∙ ap (λ p. max c.args.time p.bound) c.undo_all.view_is) (c.undo_all-2.ensures.rest stop))
