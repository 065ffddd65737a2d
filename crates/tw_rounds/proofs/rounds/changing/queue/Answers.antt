use Rattle.std.proofs.Common.{ap, ◌∙◌}
use Rattle.tw_process.specs.Behaviour.{simulation_of}
use Rattle.tw_sim.specs.Seq.{insert_all}
use Rattle.tw_sim.specs.Simulation.{times}
use Rattle.tw_rounds.proofs.rounds.changing.queue.Goals as goal

pub returns-clause-pending : goal.returns-clause-pending
returns-clause-pending g c =
    let m = simulation_of g.M.Event.Timed.parts g.M.Event.Ord.cmp (g.M.ProcessModel.behaviour c.args.model.now) in
    let events = c.deref.result.now in (
      events,
      c.in_ok-insert_all.ensures.ok ∙ ap (insert_all m events) c.in_ok-pending.ensures,
      λ e. ap (times m e) c.deref.ensures.value ∙ c.in_ok-events.ensures c.args.model.now c.requires e,
    )
