use Rattle.std.proofs.Common.{◌≡◌, subst}
use Rattle.tw_process.specs.Behaviour.{simulation_of}
use Rattle.tw_rounds.proofs.Warps.{has_run, is_right}
use Rattle.tw_rounds.specs.Warp.{HasRun, IsRight}
use Rattle.tw_rounds.proofs.rounds.Rounds.keeps_rule.Goals as goal

pub returns-clause-right : goal.returns-clause-right
returns-clause-right g c =
    let a = c.self.inside in
    let sim = λ (model : g.row.M.Denot). simulation_of g.M.Event.Timed.parts g.M.Event.Ord.cmp (g.M.ProcessModel.behaviour model) in
    subst (λ w. IsRight (sim w.model) w) c.self.view_is (is_right (sim a.model.now) a.model.now a.stop a.bound a.flight.items a.members.items c.self.invariant.2)

pub returns-clause-complete : goal.returns-clause-complete
returns-clause-complete g c =
    let a = c.self.inside in
    let sim = λ (model : g.row.M.Denot). simulation_of g.M.Event.Timed.parts g.M.Event.Ord.cmp (g.M.ProcessModel.behaviour model) in
    subst (λ w. w.bound ≡ w.stop → HasRun (sim w.model) w) c.self.view_is (has_run (sim a.model.now) a.model.now a.stop a.bound a.flight.items a.members.items c.self.invariant.2)
