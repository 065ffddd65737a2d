use Rattle.std.proofs.Common.{◌≡◌, Some, ap, sym, ◌∙◌, subst, arith}
use Rattle.tw_process.specs.Behaviour.{simulation_of}
use Rattle.tw_rounds.proofs.Lone.{bound-le}
use Rattle.tw_rounds.proofs.Ways.{one_way}
use Rattle.tw_rounds.specs.Alone.{bound_of}
use Rattle.tw_rounds.specs.Warp.{GoesOneWay, bound_in}
use Rattle.tw_rounds.proofs.time_warp.TimeWarp.share.Goals as goal
use Rattle.tw_rounds.proofs.time_warp.TimeWarp.share.Goals.{in-Some-2, in-None-2, in-Some-3, in-None-3}

pub take_over-requires : goal.take_over-requires
take_over-requires g c =
    let sim = λ (model : g.row.M.Denot). simulation_of g.M.Event.Timed.parts g.M.Event.Ord.cmp (g.M.ProcessModel.behaviour model) in
    let run = c.in-Some.alone in
    let le = bound-le (sim run.model) run in
    let last : bound_of (sim run.model) run ≡ run.stop = omega (arith, c.if-bound-stop.false, c.stop.ensures, c.bound.ensures, le) in
    last

pub invariant_of-self-in-Err-2 : goal.invariant_of-self-in-Err-2
invariant_of-self-in-Err-2 g c =
    let a = c.self.inside in
    let sim = λ (model : g.row.M.Denot). simulation_of g.M.Event.Timed.parts g.M.Event.Ord.cmp (g.M.ProcessModel.behaviour model) in
    let m = sim a.model.now in
    let run = c.in-Some.alone in
    let was : a.alone ≡ Some run = sym c.take.ensures.value ∙ c.in-Some.is in
    let way = one_way m a.model.now a.stop run a.rounds (subst (λ o. GoesOneWay m a.model.now a.stop o a.rounds) was c.self.invariant.1) in
    (c.self.invariant.0, subst (λ r. GoesOneWay m a.model.now a.stop (Some r) a.rounds) (sym c.in-Err.ensures.err) (subst (λ o. GoesOneWay m a.model.now a.stop o a.rounds) was c.self.invariant.1))

pub returns-in-Ok-clause-same : goal.returns-in-Ok-clause-same
returns-in-Ok-clause-same g c =
    let view = c.self.view_is in
    elim c.match-self-2.branch [
      | in-Some-2 w ↦ record { model = ap (λ v. v.model) w.self-is ∙ ap (λ v. v.model) view; stop = ap (λ v. v.stop) w.self-is ∙ ap (λ v. v.stop) view }
      | in-None-2 w ↦ record { model = ap (λ v. v.model) w.self-is ∙ ap (λ v. v.model) view; stop = ap (λ v. v.stop) w.self-is ∙ ap (λ v. v.stop) view }
    ]

pub returns-in-Ok-clause-bound : goal.returns-in-Ok-clause-bound
returns-in-Ok-clause-bound g c =
    let a = c.self.inside in
    let sim = λ (model : g.row.M.Denot). simulation_of g.M.Event.Timed.parts g.M.Event.Ord.cmp (g.M.ProcessModel.behaviour model) in
    let m = sim a.model.now in
    let run = c.in-Some.alone in
    let was : a.alone ≡ Some run = sym c.take.ensures.value ∙ c.in-Some.is in
    let way = one_way m a.model.now a.stop run a.rounds (subst (λ o. GoesOneWay m a.model.now a.stop o a.rounds) was c.self.invariant.1) in
    let le = bound-le (sim run.model) run in
    let last : bound_of (sim run.model) run ≡ run.stop = omega (arith, c.if-bound-stop.false, c.stop.ensures, c.bound.ensures, le) in
    let to_old : c.in-Ok.rounds.bound ≡ c.args.self.now.bound =
    c.in-Ok.ensures.bound ∙ (sym last ∙ (ap (λ md. bound_of (sim md) run) way.0 ∙ (ap (λ o. bound_in m o a.rounds) (sym was) ∙ ap (λ v. v.bound) c.self.view_is))) in
    elim c.match-self-2.branch [
      | in-Some-2 w ↦ ap (λ v. v.bound) w.self-is ∙ (ap (λ o. bound_in m o (Some c.in-Ok.rounds)) c.take.ensures.after ∙ to_old)
      | in-None-2 w ↦ ap (λ v. v.bound) w.self-is ∙ (ap (λ o. bound_in m o (Some c.in-Ok.rounds)) c.take.ensures.after ∙ to_old)
    ]

pub returns-in-Err-clause-same : goal.returns-in-Err-clause-same
returns-in-Err-clause-same g c =
    let view = c.self.view_is in
    elim c.match-self-3.branch [
      | in-Some-3 w ↦ record { model = ap (λ v. v.model) w.self-is ∙ ap (λ v. v.model) view; stop = ap (λ v. v.stop) w.self-is ∙ ap (λ v. v.stop) view }
      | in-None-3 w ↦ record { model = ap (λ v. v.model) w.self-is ∙ ap (λ v. v.model) view; stop = ap (λ v. v.stop) w.self-is ∙ ap (λ v. v.stop) view }
    ]

pub returns-in-Err-clause-bound : goal.returns-in-Err-clause-bound
returns-in-Err-clause-bound g c =
    let a = c.self.inside in
    let sim = λ (model : g.row.M.Denot). simulation_of g.M.Event.Timed.parts g.M.Event.Ord.cmp (g.M.ProcessModel.behaviour model) in
    let m = sim a.model.now in
    let run = c.in-Some.alone in
    let was : a.alone ≡ Some run = sym c.take.ensures.value ∙ c.in-Some.is in
    let way = one_way m a.model.now a.stop run a.rounds (subst (λ o. GoesOneWay m a.model.now a.stop o a.rounds) was c.self.invariant.1) in
    let to_old : bound_of m c.in-Err.alone ≡ c.args.self.now.bound =
    ap (bound_of m) c.in-Err.ensures.err ∙ (ap (λ o. bound_in m o a.rounds) (sym was) ∙ ap (λ v. v.bound) c.self.view_is) in
    elim c.match-self-3.branch [
      | in-Some-3 w ↦ ap (λ v. v.bound) w.self-is ∙ to_old
      | in-None-3 w ↦ ap (λ v. v.bound) w.self-is ∙ to_old
    ]
