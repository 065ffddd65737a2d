use Rattle.std.proofs.Common.{rules}
use Rattle.tw_rule.proofs.Visits.{may_stay, may_visit}
use Rattle.tw_rule.proofs.laws.calls_may_be_given.Goals as goal

pub returns-clause-stay : goal.returns-clause-stay
returns-clause-stay c = λ start m law who x p q board stands keeps. may_stay m law who x p q board stands keeps

pub returns-clause-visit : goal.returns-clause-visit
returns-clause-visit c = search (rules, may_visit)
