use Rattle.std.proofs.Common.{◌≡◌, Err, ap}
use Rattle.tw_event.specs.contracts.event.EventOrd.TheImpl as event_ord
use Rattle.tw_process.specs.Behaviour.{simulation_of}
use Rattle.tw_process.specs.Routing.{routing_parts}
use Rattle.tw_process.specs.declared.refused.Refused.TheVariants.{CounterFull}
use Rattle.tw_routing.specs.Routing.{routing_behaviour}
use Rattle.tw_routing_run.proofs.Runs.{completed_there, held_up_there}
use Rattle.tw_routing_run.proofs.threads.run_case_by.Goals as goal

pub returns-in-Ok-run_in_rounds-clause-ok : goal.returns-in-Ok-run_in_rounds-clause-ok
returns-in-Ok-run_in_rounds-clause-ok g c =
    completed_there (λ case. simulation_of routing_parts event_ord.ghosts.cmp (routing_behaviour case)) c.args.routing.now c.routing_is_simulation.ensures.simulates c.args.stop _ c.run_in_rounds.new.self
    c.in-Ok.ensures c.run_in_rounds.ensures.model c.run_in_rounds.ensures.stop c.in-Ok-run_in_rounds.ensures.complete c.in-Ok-run_in_rounds.ensures.ok

pub returns-clause-full : goal.returns-clause-full
returns-clause-full g c = λ h.
    let is_full : c.in-Err.refused ≡ CounterFull = cc h in
    held_up_there (λ case. simulation_of routing_parts event_ord.ghosts.cmp (routing_behaviour case)) c.args.routing.now c.routing_is_simulation.ensures.simulates c.args.stop _ c.run_in_rounds.new.self
    c.in-Ok.ensures c.run_in_rounds.ensures.model c.run_in_rounds.ensures.stop c.run_in_rounds.ensures.right (c.in-Err.ensures.full (ap Err is_full))
