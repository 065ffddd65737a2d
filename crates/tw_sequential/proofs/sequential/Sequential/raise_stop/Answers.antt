use Rattle.std.proofs.Common.{◌≤◌, arith, subst, sym}
use Rattle.tw_process.specs.Behaviour.{simulation_of}
use Rattle.tw_sequential.proofs.Running.{raised}
use Rattle.tw_sequential.proofs.sequential.Sequential.raise_stop.Goals as goal

pub invariant_of-self : goal.invariant_of-self
invariant_of-self g c =
    let a = c.self.inside in
    let m = simulation_of g.M.Event.Timed.parts g.M.Event.Ord.cmp (g.M.ProcessModel.behaviour a.model.now) in
    let most = subst (λ run. c.args.stop ≤ (g.M.ProcessModel.behaviour run.model).latest) (sym c.self.view_is) c.requires in (
      raised m (g.M.ProcessModel.is_state a.model.now) g.M.ProcessModel.known a.model.now a.stop c.args.stop a.handled a.pending a.states.items (omega (arith, c.if-self-stop.true))
          (omega (arith, most, c.model_is_lawful.ensures.latest)) c.self.invariant.0,
      c.self.invariant.1,
      c.self.invariant.2,
      most,
    )
