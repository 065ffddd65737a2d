use Rattle.std.proofs.Common.{Some, sym, ◌∙◌, subst}
use Rattle.tw_process.specs.Behaviour.{simulation_of}
use Rattle.tw_rounds.proofs.Ways.{in_rounds, seen, stuck_rounds}
use Rattle.tw_rounds.specs.Warp.{GoesOneWay, IsStuck}
use Rattle.tw_rounds.proofs.time_warp.TimeWarp.settle.Goals as goal

pub returns-in-Some-clause-full : goal.returns-in-Some-clause-full
returns-in-Some-clause-full g c = λ h.
    let a = c.self.inside in
    let sim = λ (model : g.row.M.Denot). simulation_of g.M.Event.Timed.parts g.M.Event.Ord.cmp (g.M.ProcessModel.behaviour model) in
    let m = sim a.model.now in
    let v = c.round-settled.new.self in
    let way = in_rounds m a.model.now a.stop a.alone c.in-Some.rounds (subst (λ o. GoesOneWay m a.model.now a.stop a.alone o) c.in-Some.is c.self.invariant.1) in
    let stuck = subst (λ md. IsStuck (sim md) v) (c.round-settled.ensures.same.model ∙ way.1) (c.round-settled.ensures.full h) in
    subst (λ o. IsStuck m (seen m a.model.now a.stop o (Some v))) (sym way.0) (stuck_rounds m a.model.now a.stop v stuck)
