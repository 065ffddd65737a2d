use Rattle.std.proofs.Common.{◌≤◌, max, subst, sym, ap, ◌∙◌, arith}
use Rattle.tw_process.specs.Behaviour.{simulation_of}
use Rattle.tw_rounds.proofs.Lone.{first_raised, none_first}
use Rattle.tw_rounds.specs.Alone.{bound_of}
use Rattle.tw_sequential.proofs.Running.{weight_next}
use Rattle.tw_sequential.specs.Run.{IsNext, IsNextRun, NoneBefore}
use Rattle.tw_sim.specs.Simulation.{IsLawful}
use Rattle.tw_rounds.proofs.alone.Alone.run_to.Goals as goal

pub loop-event-smaller : goal.loop-event-smaller
loop-event-smaller g c =
    let sim = λ (model : g.row.M.Denot). simulation_of g.M.Event.Timed.parts g.M.Event.Ord.cmp (g.M.ProcessModel.behaviour model) in
    let run = c.loop-event.self in
    let same = c.loop-event.invariant.model in
    weight_next (sim c.args.self.now.model) (subst (λ model. IsLawful (sim model)) c.model.ensures c.model_is_lawful.ensures.lawful) run c.handle_next.new.self c.in-Some.event
    (subst (λ model. IsNext (sim model) run c.in-Some.event) same c.in-Some.ensures.some)
    (subst (λ model. IsNextRun (sim model) run c.handle_next.new.self) same c.in_ok-handle_next.ensures.ok)

pub loop-event-preserved : goal.loop-event-preserved
loop-event-preserved g c =
    let sim = λ (model : g.row.M.Denot). simulation_of g.M.Event.Timed.parts g.M.Event.Ord.cmp (g.M.ProcessModel.behaviour model) in
    let run = c.loop-event.self in
    let same = c.loop-event.invariant.model in
    let next = subst (λ model. IsNextRun (sim model) run c.handle_next.new.self) same c.in_ok-handle_next.ensures.ok in
    let rises = subst (λ model. bound_of (sim model) run ≤ bound_of (sim model) c.handle_next.new.self) same c.in_ok-handle_next.ensures.rises in
    record {
      model = next.0 ∙ same;
      stop = next.1 ∙ c.loop-event.invariant.stop;
      rises = (let was = c.loop-event.invariant.rises in omega (arith, was, rises));
    }

pub loop-event-init : goal.loop-event-init
loop-event-init g c =
    let m = simulation_of g.M.Event.Timed.parts g.M.Event.Ord.cmp (g.M.ProcessModel.behaviour c.args.self.now.model) in
    let run = c.args.self.now in
    record {
      model = ap (λ r. r.model) c.raise_stop.ensures;
      stop = ap (λ r. r.stop) c.raise_stop.ensures;
      rises = subst (λ r. bound_of m run ≤ bound_of m r) (sym c.raise_stop.ensures) (first_raised m run.stop (max run.stop c.args.stop) run.rest (omega arith));
    }

pub returns-clause-complete : goal.returns-clause-complete
returns-clause-complete g c =
    let sim = λ (model : g.row.M.Denot). simulation_of g.M.Event.Timed.parts g.M.Event.Ord.cmp (g.M.ProcessModel.behaviour model) in
    let run = c.loop-event.self in
    let same = c.loop-event.invariant.model in
    none_first (sim c.args.self.now.model) run.stop run.rest
    (subst (λ model. NoneBefore (sim model) run.stop run.rest) same c.in_default.ensures.none)
