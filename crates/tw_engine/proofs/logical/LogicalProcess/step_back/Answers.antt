use Rattle.std.proofs.Common.{OnOk, subst}
use Rattle.tw_engine.specs.Process.{IsOneUndone, joined}
use Rattle.tw_process.specs.Behaviour.{simulation_of}
use Rattle.tw_engine.proofs.logical.LogicalProcess.step_back.Goals as goal

pub returns-clause-ok : goal.returns-clause-ok
returns-clause-ok g c =
    let a = c.self.inside in
    let sim = λ (model : g.row.M.Denot). simulation_of g.M.Event.Timed.parts g.M.Event.Ord.cmp (g.M.ProcessModel.behaviour model) in
    let n = c.undo_newest.new in
    subst (λ p. OnOk c.undo_newest.result (IsOneUndone (sim p.model) p (joined n.past n.pending a.kept n.flight.items a.bound))) c.self.view_is (c.undo_newest.ensures.ok a.kept a.bound)
