use Rattle.std.proofs.Common.{◌≡◌, Some, ap, sym, ◌∙◌, subst, arith}
use Rattle.tw_process.specs.Behaviour.{simulation_of}
use Rattle.tw_rounds.proofs.Ways.{in_rounds}
use Rattle.tw_rounds.specs.Alone.{bound_of}
use Rattle.tw_rounds.specs.Warp.{GoesOneWay, bound_in}
use Rattle.tw_rounds.proofs.time_warp.TimeWarp.go_alone.Goals as goal
use Rattle.tw_rounds.proofs.time_warp.TimeWarp.go_alone.Goals.{in-Some-2, in-None-2, in-Some-3, in-None-3}

pub returns-in-Ok-clause-same : goal.returns-in-Ok-clause-same
returns-in-Ok-clause-same g c =
    let view = c.self.view_is in
    elim c.match-self-2.branch [
      | in-Some-2 w ↦ record { model = ap (λ v. v.model) w.self-is ∙ ap (λ v. v.model) view; stop = ap (λ v. v.stop) w.self-is ∙ ap (λ v. v.stop) view }
      | in-None-2 w ↦ record { model = ap (λ v. v.model) w.self-is ∙ ap (λ v. v.model) view; stop = ap (λ v. v.stop) w.self-is ∙ ap (λ v. v.stop) view }
    ]

pub returns-in-Ok-clause-bound : goal.returns-in-Ok-clause-bound
returns-in-Ok-clause-bound g c =
    let a = c.self.inside in
    let sim = λ (model : g.row.M.Denot). simulation_of g.M.Event.Timed.parts g.M.Event.Ord.cmp (g.M.ProcessModel.behaviour model) in
    let m = sim a.model.now in
    let v = c.in-Some.rounds in
    let was : a.rounds ≡ Some v = sym c.take.ensures.value ∙ c.in-Some.is in
    let way = in_rounds m a.model.now a.stop a.alone v (subst (λ o. GoesOneWay m a.model.now a.stop a.alone o) was c.self.invariant.1) in
    let last : v.bound ≡ v.stop = omega (arith, c.if-bound-stop.false, c.stop.ensures, c.bound.ensures, c.keeps_rule.ensures.bound) in
    let to_old : bound_of m c.in-Ok.alone ≡ c.args.self.now.bound =
    ap (λ md. bound_of (sim md) c.in-Ok.alone) (sym (c.in-Ok.ensures.model ∙ way.1))
    ∙ (c.in-Ok.ensures.complete ∙ (c.in-Ok.ensures.stop ∙ (sym last ∙ ((λ i. bound_in m (sym way.0 i) (sym was i)) ∙ ap (λ w. w.bound) c.self.view_is)))) in
    elim c.match-self-2.branch [
      | in-Some-2 w ↦ ap (λ v. v.bound) w.self-is ∙ to_old
      | in-None-2 w ↦ ap (λ v. v.bound) w.self-is ∙ to_old
    ]

pub returns-in-Err-clause-same : goal.returns-in-Err-clause-same
returns-in-Err-clause-same g c =
    let view = c.self.view_is in
    elim c.match-self-3.branch [
      | in-Some-3 w ↦ record { model = ap (λ v. v.model) w.self-is ∙ ap (λ v. v.model) view; stop = ap (λ v. v.stop) w.self-is ∙ ap (λ v. v.stop) view }
      | in-None-3 w ↦ record { model = ap (λ v. v.model) w.self-is ∙ ap (λ v. v.model) view; stop = ap (λ v. v.stop) w.self-is ∙ ap (λ v. v.stop) view }
    ]

pub returns-in-Err-clause-bound : goal.returns-in-Err-clause-bound
returns-in-Err-clause-bound g c =
    let a = c.self.inside in
    let sim = λ (model : g.row.M.Denot). simulation_of g.M.Event.Timed.parts g.M.Event.Ord.cmp (g.M.ProcessModel.behaviour model) in
    let m = sim a.model.now in
    let v = c.in-Some.rounds in
    let was : a.rounds ≡ Some v = sym c.take.ensures.value ∙ c.in-Some.is in
    let way = in_rounds m a.model.now a.stop a.alone v (subst (λ o. GoesOneWay m a.model.now a.stop a.alone o) was c.self.invariant.1) in
    let to_old : c.in-Err.rounds.bound ≡ c.args.self.now.bound =
    ap (λ x. x.bound) c.in-Err.ensures.err ∙ ((λ i. bound_in m (sym way.0 i) (sym was i)) ∙ ap (λ w. w.bound) c.self.view_is) in
    elim c.match-self-3.branch [
      | in-Some-3 w ↦ ap (λ v. v.bound) w.self-is ∙ (ap (λ o. bound_in m o (Some c.in-Err.rounds)) way.0 ∙ to_old)
      | in-None-3 w ↦ ap (λ v. v.bound) w.self-is ∙ (ap (λ o. bound_in m o (Some c.in-Err.rounds)) way.0 ∙ to_old)
    ]
