use Rattle.std.proofs.Common.{ℕ, subst}
use Rattle.tw_process.specs.Behaviour.{simulation_of}
use Rattle.tw_rounds.specs.Alone.{IsAlone}
use Rattle.tw_rounds.proofs.alone.Alone.keeps_law.Goals as goal

pub returns-clause-alone : goal.returns-clause-alone
returns-clause-alone g c =
    let a = c.self.inside in
    subst (λ run. (since : ℕ) × (n : ℕ) × IsAlone (simulation_of g.M.Event.Timed.parts g.M.Event.Ord.cmp (g.M.ProcessModel.behaviour run.model)) run since n) c.self.view_is
    (a.progress.since, a.progress.turns, c.self.invariant.0)
