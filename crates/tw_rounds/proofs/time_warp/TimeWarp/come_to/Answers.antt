use Rattle.std.proofs.Common.{Some, sym, ◌∙◌, subst}
use Rattle.tw_process.specs.Behaviour.{simulation_of}
use Rattle.tw_rounds.proofs.Ways.{in_rounds, one_way, seen, stuck_alone, stuck_rounds}
use Rattle.tw_rounds.specs.Alone.{IsAlone, IsFullNext}
use Rattle.tw_rounds.specs.Warp.{GoesOneWay, IsStuck}
use Rattle.tw_rounds.proofs.time_warp.TimeWarp.come_to.Goals as goal

pub returns-in-Some-clause-full : goal.returns-in-Some-clause-full
returns-in-Some-clause-full g c = λ h.
    let a = c.self.inside in
    let sim = λ (model : g.row.M.Denot). simulation_of g.M.Event.Timed.parts g.M.Event.Ord.cmp (g.M.ProcessModel.behaviour model) in
    let m = sim a.model.now in
    let run = c.run_to-came.new.self in
    let way = one_way m a.model.now a.stop c.in-Some.alone a.rounds (subst (λ o. GoesOneWay m a.model.now a.stop o a.rounds) c.in-Some.is c.self.invariant.1) in
    let same = c.run_to-came.ensures.model ∙ way.0 in
    let law = c.keeps_law.ensures.alone in
    let kept = subst (λ md. IsAlone (sim md) run law.0 law.1) same law.2 in
    let full = subst (λ md. IsFullNext (sim md) run) way.0 (c.run_to-came.ensures.full h) in
    stuck_alone m kept.law a.model.now a.stop run a.rounds law.0 law.1 kept full.0 full.1 full.2

pub returns-clause-full : goal.returns-clause-full
returns-clause-full g c = λ h.
    let a = c.self.inside in
    let sim = λ (model : g.row.M.Denot). simulation_of g.M.Event.Timed.parts g.M.Event.Ord.cmp (g.M.ProcessModel.behaviour model) in
    let m = sim a.model.now in
    let v = c.run_to.new.self in
    let way = in_rounds m a.model.now a.stop a.alone c.in-Some-rounds.rounds (subst (λ o. GoesOneWay m a.model.now a.stop a.alone o) c.in-Some-rounds.is c.self.invariant.1) in
    let stuck = subst (λ md. IsStuck (sim md) v) way.1 (c.run_to.ensures.full h) in
    subst (λ o. IsStuck m (seen m a.model.now a.stop o (Some v))) (sym way.0) (stuck_rounds m a.model.now a.stop v stuck)
