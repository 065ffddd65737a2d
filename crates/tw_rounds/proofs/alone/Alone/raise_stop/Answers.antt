use Rattle.std.proofs.Common.{◌≤◌, [], arith, subst, sym}
use Rattle.tw_process.specs.Behaviour.{simulation_of}
use Rattle.tw_rounds.proofs.Lone.{alone_raised, committed_raised}
use Rattle.tw_rounds.specs.Alone.{run_at}
use Rattle.tw_rounds.proofs.alone.Alone.raise_stop.Goals as goal

pub invariant_of-self : goal.invariant_of-self
invariant_of-self g c =
    let a = c.self.inside in
    let m = simulation_of g.M.Event.Timed.parts g.M.Event.Ord.cmp (g.M.ProcessModel.behaviour a.model.now) in
    let run = run_at m a.model.now a.stop a.progress.since a.progress.turns a.pending in
    let most = subst (λ run. c.args.stop ≤ (g.M.ProcessModel.behaviour run.model).latest) (sym c.self.view_is) c.requires in (
      alone_raised m c.model_is_lawful.ensures.lawful run a.progress.since a.progress.turns c.self.invariant.0 c.args.stop (omega (arith, c.if-self-stop.true)) (omega (arith, most, c.model_is_lawful.ensures.latest)),
      committed_raised m c.model_is_lawful.ensures.lawful run c.args.stop (λ r. []) a.members.items (omega (arith, c.if-self-stop.true)) c.self.invariant.1,
      c.self.invariant.2,
      c.self.invariant.3,
      most,
    )
