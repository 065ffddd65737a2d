use Rattle.std.proofs.Common.{ap, ◌∙◌}
use Rattle.tw_process.specs.Behaviour.{simulation_of}
use Rattle.tw_sim.specs.Simulation.{state}
use Rattle.tw_rounds.proofs.time_warp.TimeWarp.state.Goals as goal

pub returns-clause-complete : goal.returns-clause-complete
returns-clause-complete g c = λ last.
    let m = simulation_of g.M.Event.Timed.parts g.M.Event.Ord.cmp (g.M.ProcessModel.behaviour c.args.self.now.model) in
    c.state_of.ensures ∙ ap (state m c.args.number) (c.keeps_rule.ensures.complete last c.args.number c.requires)
