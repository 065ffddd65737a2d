use Rattle.tw_routing.proofs.Kept.{is_simulation}
use Rattle.tw_routing.proofs.laws.routing_is_simulation.Goals as goal

pub returns-clause-simulates : goal.returns-clause-simulates
returns-clause-simulates c = is_simulation c.args.routing.now
