use Rattle.tw_process.specs.Exact.{event_exact, exact_unit}
use Rattle.tw_phold.proofs.Kept.{behaved, numbered}
use Rattle.tw_phold.proofs.handlers.PholdProcessModel.keeps_laws.Goals as goal

pub returns-clause-behaved : goal.returns-clause-behaved
returns-clause-behaved c = behaved c.args.self.now _ (event_exact _ exact_unit)

pub returns-clause-numbered : goal.returns-clause-numbered
returns-clause-numbered c = numbered c.args.self.now _ (event_exact _ exact_unit)
