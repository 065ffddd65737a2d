use Rattle.std.proofs.Common.{◌≡◌, ◌<◌, length, sym, subst, arith}
use Rattle.std.proofs.lemmas.Option.{slice_get_read}
use Rattle.tw_process.specs.Behaviour.{simulation_of}
use Rattle.tw_sim.specs.Simulation.{only, state}
use Rattle.tw_sequential.proofs.sequential.Sequential.state.Goals as goal

-- what is kept of the process, at the run that the caller sees
pub returns : goal.returns
returns g c =
    let a = c.self.inside in
    let kept = c.self.invariant.0 in
    let count = kept.are.count in
    let here = subst (λ run. c.args.number < (g.M.ProcessModel.behaviour run.model).processes) (sym c.self.view_is) c.requires in
    let at = slice_get_read a.states.items (length a.states.items) c.args.number c.index.result.now (omega arith) (omega arith) c.index.ensures in
    let each = kept.are.each c.args.number c.index.result.now at in
    record {
      own = subst (λ run. g.M.ProcessModel.is_state run.model c.args.number c.index.result.now) c.self.view_is each.0;
      known = subst (λ run.
          let m = simulation_of g.M.Event.Timed.parts g.M.Event.Ord.cmp (g.M.ProcessModel.behaviour run.model) in
          g.M.ProcessModel.known c.index.result.now ≡ state m c.args.number (only m c.args.number run.log)) c.self.view_is each.1;
    }
