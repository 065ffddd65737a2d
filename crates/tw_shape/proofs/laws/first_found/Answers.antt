use Rattle.tw_shape.proofs.Findings.{finding_first, finding_none, finding_stays}
use Rattle.tw_shape.proofs.laws.first_found.Goals as goal

pub returns-clause-found : goal.returns-clause-found
returns-clause-found c case every n f some h = finding_first case every some n f h

pub returns-clause-none : goal.returns-clause-none
returns-clause-none c case every n some h = finding_none case every some n h

pub returns-clause-stays : goal.returns-clause-stays
returns-clause-stays c = finding_stays
