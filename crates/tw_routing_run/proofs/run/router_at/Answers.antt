use Rattle.tw_event.specs.contracts.event.EventOrd.TheImpl as event_ord
use Rattle.tw_process.specs.Behaviour.{simulation_of}
use Rattle.tw_process.specs.Routing.{routing_parts}
use Rattle.tw_routing.specs.Routing.{routing_behaviour}
use Rattle.tw_routing.proofs.Kept.{is_simulation}
use Rattle.tw_routing_run.proofs.Runs.{is_router}
use Rattle.tw_routing_run.proofs.run.router_at.Goals as goal

pub returns : goal.returns
returns c =
    is_router (λ case. simulation_of routing_parts event_ord.ghosts.cmp (routing_behaviour case)) c.args.run.now.model (is_simulation c.args.run.now.model) c.args.number c.state.result.now
    c.args.run.now.log c.state.ensures.own c.state.ensures.known
