use Rattle.tw_routing.proofs.Kept.{behaved, numbers}
use Rattle.tw_routing.proofs.handlers.RoutingProcessModel.keeps_laws.Goals as goal

pub returns-clause-behaved : goal.returns-clause-behaved
returns-clause-behaved c = behaved c.args.self.now c.case.ensures.case

pub returns-clause-numbered : goal.returns-clause-numbered
returns-clause-numbered c = numbers c.args.self.now c.case.ensures.case
