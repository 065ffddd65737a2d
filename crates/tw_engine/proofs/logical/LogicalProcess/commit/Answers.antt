use Rattle.std.proofs.Common.{◌<◌, ap, sym, ◌∙◌, subst}
use Rattle.std.specs.List.{AllByRecursion}
use Rattle.tw_core.specs.Steps.{with_commit}
use Rattle.tw_engine.specs.Process.{joined, process_core}
use Rattle.tw_engine.proofs.Commits.{core_committed}
use Rattle.tw_process.specs.Behaviour.{simulation_of}
use Rattle.tw_engine.proofs.logical.LogicalProcess.commit.Goals as goal

pub returns-clause-ok : goal.returns-clause-ok
returns-clause-ok g c = λ stop.
    let a = c.self.inside in
    let sim = λ (model : g.row.M.Denot). simulation_of g.M.Event.Timed.parts g.M.Event.Ord.cmp (g.M.ProcessModel.behaviour model) in
    let early = subst (λ p. AllByRecursion (λ e. g.M.Event.Timed.parts.time e < p.bound) p.past) (sym c.self.view_is) c.keeps_laws.ensures.early in
    ap (λ p. process_core stop (joined p a.pending a.kept a.flight.items a.bound)) c.in_ok-commit.ensures.ok
    ∙ (core_committed (sim a.past.model) (joined a.past a.pending a.kept a.flight.items a.bound) early stop
    ∙ (λ i. with_commit (sim (c.self.view_is i).model) (process_core stop (c.self.view_is i)) (c.self.view_is i).number))
