use Rattle.std.proofs.Common.{◌≡◌, ◌<◌, sym, ◌∙◌, subst, ap}
use Rattle.tw_process.specs.Behaviour.{simulation_of}
use Rattle.tw_rounds.proofs.Ways.{handled_alone, one_way, seen}
use Rattle.tw_rounds.specs.Warp.{GoesOneWay, handled}
use Rattle.tw_sim.specs.Simulation.{only, state}
use Rattle.tw_rounds.proofs.time_warp.TimeWarp.state_of.Goals as goal

pub returns-in-Some : goal.returns-in-Some
returns-in-Some g c =
    let a = c.self.inside in
    let sim = λ (model : g.row.M.Denot). simulation_of g.M.Event.Timed.parts g.M.Event.Ord.cmp (g.M.ProcessModel.behaviour model) in
    let m = sim a.model.now in
    let run = c.in-Some.alone in
    let r = c.args.number in
    let known = g.M.ProcessModel.known c.state.result.now in
    let way = one_way m a.model.now a.stop run a.rounds (subst (λ o. GoesOneWay m a.model.now a.stop o a.rounds) c.in-Some.is c.self.invariant.1) in
    let here : r < m.routers = subst (λ v. r < (g.M.ProcessModel.behaviour v.model).processes) (sym c.self.view_is) c.requires in
    let told = subst (λ md. known ≡ state (sim md) r (only (sim md) r run.log)) way.0 c.state.ensures in
    subst (λ v. known ≡ state (sim v.model) r (handled r v)) c.self.view_is
    (subst (λ o. known ≡ state m r (handled r (seen m a.model.now a.stop o a.rounds))) (sym c.in-Some.is)
    (told ∙ ap (state m r) (sym (handled_alone m a.model.now a.stop run a.rounds r here))))
