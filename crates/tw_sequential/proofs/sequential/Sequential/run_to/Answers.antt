use Rattle.std.proofs.Common.{subst, ◌∙◌}
use Rattle.tw_process.specs.Behaviour.{simulation_of}
use Rattle.tw_sim.specs.Simulation.{IsLawful}
use Rattle.tw_sequential.specs.Run.{IsBegun, IsNext, IsNextRun, NoneBefore, complete_run}
use Rattle.tw_sequential.proofs.Running.{complete_at, continues_next, weight_next}
use Rattle.tw_sequential.proofs.sequential.Sequential.run_to.Goals as goal

pub loop-event-smaller : goal.loop-event-smaller
loop-event-smaller g c =
    let sim = λ (model : g.row.M.Denot). simulation_of g.M.Event.Timed.parts g.M.Event.Ord.cmp (g.M.ProcessModel.behaviour model) in
    let run = c.loop-event.self in
    let same = c.loop-event.invariant.model in
    weight_next (sim c.args.self.now.model) (subst (λ model. IsLawful (sim model)) c.model.ensures.value c.model_is_lawful.ensures.lawful) run c.handle_next.new.self c.in-Some.event
    (subst (λ model. IsNext (sim model) run c.in-Some.event) same c.in-Some.ensures.some)
    (subst (λ model. IsNextRun (sim model) run c.handle_next.new.self) same c.in_ok-handle_next.ensures.ok)

pub loop-event-preserved : goal.loop-event-preserved
loop-event-preserved g c =
    let sim = λ (model : g.row.M.Denot). simulation_of g.M.Event.Timed.parts g.M.Event.Ord.cmp (g.M.ProcessModel.behaviour model) in
    let run = c.loop-event.self in
    let same = c.loop-event.invariant.model in
    let next = subst (λ model. IsNextRun (sim model) run c.handle_next.new.self) same c.in_ok-handle_next.ensures.ok in
    record {
      model = next.0 ∙ same;
      stop = next.1 ∙ c.loop-event.invariant.stop;
      goes_on = continues_next (sim c.args.self.now.model) c.args.self.now run c.handle_next.new.self c.loop-event.invariant.goes_on next;
    }

pub returns-clause-ok : goal.returns-clause-ok
returns-clause-ok g c =
    let sim = λ (model : g.row.M.Denot). simulation_of g.M.Event.Timed.parts g.M.Event.Ord.cmp (g.M.ProcessModel.behaviour model) in
    let m = sim c.args.self.now.model in
    let run = c.loop-event.self in
    let same = c.loop-event.invariant.model in
    let law = subst (λ model. IsLawful (sim model)) c.model.ensures.value c.model_is_lawful.ensures.lawful in
    complete_at m law run (subst (λ model. IsBegun (sim model) run) same c.next.ensures.begun) (subst (λ model. NoneBefore (sim model) run.stop run.rest) same c.in_default.ensures.none)
    ∙ λ i. complete_run m (same i) (c.loop-event.invariant.stop i)
