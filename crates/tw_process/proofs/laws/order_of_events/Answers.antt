use Rattle.tw_process.specs.Exact.{event_exact}
use Rattle.tw_process.proofs.laws.order_of_events.Goals as goal

pub returns-clause-exact : goal.returns-clause-exact
returns-clause-exact g c = event_exact g.B.Ord.cmp g.met.B.Body.exact
