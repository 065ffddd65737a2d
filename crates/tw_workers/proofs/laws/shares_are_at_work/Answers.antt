use Rattle.tw_workers.proofs.Visits.{at_work}
use Rattle.tw_workers.proofs.laws.shares_are_at_work.Goals as goal

pub returns : goal.returns
returns c = λ case x shares i s ruled place. at_work case x shares i s ruled place
