use Rattle.std.proofs.Common.{arith}
use Rattle.tw_rule.proofs.Visits.{report_late, tells_all, unsent_late, unsent_suits}
use Rattle.tw_rule.proofs.laws.visits_are_welcome.Goals as goal

pub returns-clause-tells : goal.returns-clause-tells
returns-clause-tells c = λ start m law p. tells_all m law p

pub returns-clause-empty : goal.returns-clause-empty
returns-clause-empty c = λ start m p none. grind arith

pub returns-clause-report : goal.returns-clause-report
returns-clause-report c = λ start m law who x p q board stands keeps. report_late m law who x p q board stands keeps

pub returns-clause-unsent : goal.returns-clause-unsent
returns-clause-unsent c = λ start m law who x p q e board stands keeps h. unsent_late m law who x p q e board stands keeps h

pub returns-clause-suited : goal.returns-clause-suited
returns-clause-suited c = λ start m law stop p q e keeps h. unsent_suits m law (λ r. 0) stop p q e keeps h
