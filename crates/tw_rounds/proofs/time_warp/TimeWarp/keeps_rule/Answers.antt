use Rattle.std.proofs.Common.{◌≡◌, sym, subst}
use Rattle.tw_process.specs.Behaviour.{simulation_of}
use Rattle.tw_rounds.proofs.Ways.{complete_alone, no_way, one_way, right_alone, seen}
use Rattle.tw_rounds.specs.Alone.{IsAlone}
use Rattle.tw_rounds.specs.Warp.{GoesOneWay, HasRun, IsRight}
use Rattle.tw_rounds.proofs.time_warp.TimeWarp.keeps_rule.Goals as goal
use Rattle.tw_rounds.proofs.time_warp.TimeWarp.keeps_rule.Goals.{in-Some, in_default}

pub returns-in_default-rounds-clause-right : goal.returns-in_default-rounds-clause-right
returns-in_default-rounds-clause-right g c =
    let a = c.self.inside in
    let sim = λ (model : g.row.M.Denot). simulation_of g.M.Event.Timed.parts g.M.Event.Ord.cmp (g.M.ProcessModel.behaviour model) in
    let m = sim a.model.now in
    elim c.match-self.branch [
      | in-Some w ↦ (
          let run = w.in-Some.alone in
          let way = subst (λ o. GoesOneWay m a.model.now a.stop o a.rounds) w.in-Some.is c.self.invariant.1 in
          let model = (one_way m a.model.now a.stop run a.rounds way).0 in
          let law = w.keeps_law.ensures.alone in
          let kept = subst (λ md. IsAlone (sim md) run law.0 law.1) model law.2 in
          subst (λ v. IsRight (sim v.model) v) c.self.view_is
          (subst (λ o. IsRight m (seen m a.model.now a.stop o a.rounds)) (sym w.in-Some.is) (right_alone m kept.law a.model.now a.stop run a.rounds law.0 law.1 kept)))
      | in_default w ↦ absurd (no_way m a.model.now a.stop a.alone a.rounds c.self.invariant.1 w.in_default.not-Some c.in_default-rounds.not-Some)
    ]

pub returns-in_default-rounds-clause-complete : goal.returns-in_default-rounds-clause-complete
returns-in_default-rounds-clause-complete g c =
    let a = c.self.inside in
    let sim = λ (model : g.row.M.Denot). simulation_of g.M.Event.Timed.parts g.M.Event.Ord.cmp (g.M.ProcessModel.behaviour model) in
    let m = sim a.model.now in
    elim c.match-self.branch [
      | in-Some w ↦ (
          let run = w.in-Some.alone in
          let way = one_way m a.model.now a.stop run a.rounds (subst (λ o. GoesOneWay m a.model.now a.stop o a.rounds) w.in-Some.is c.self.invariant.1) in
          let law = w.keeps_law.ensures.alone in
          let kept = subst (λ md. IsAlone (sim md) run law.0 law.1) way.0 law.2 in
          subst (λ v. v.bound ≡ v.stop → HasRun (sim v.model) v) c.self.view_is
          (subst (λ o. (seen m a.model.now a.stop o a.rounds).bound ≡ a.stop → HasRun m (seen m a.model.now a.stop o a.rounds)) (sym w.in-Some.is)
          (complete_alone m kept.law a.model.now a.stop run a.rounds law.0 law.1 kept way.1)))
      | in_default w ↦ absurd (no_way m a.model.now a.stop a.alone a.rounds c.self.invariant.1 w.in_default.not-Some c.in_default-rounds.not-Some)
    ]
