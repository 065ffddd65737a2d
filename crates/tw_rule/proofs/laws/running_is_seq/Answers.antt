use Rattle.tw_rule.proofs.Gives.{rule_gives, rule_reopens}
use Rattle.tw_rule.proofs.Opens.{rule_opens}
use Rattle.tw_rule.proofs.Ruled.{good_of_rule, seq_of_rule}
use Rattle.tw_rule.proofs.laws.running_is_seq.Goals as goal

pub returns-clause-good : goal.returns-clause-good
returns-clause-good c = λ start m law who x ps rule. good_of_rule m law who x ps rule

pub returns-clause-always : goal.returns-clause-always
returns-clause-always c = λ start m law numbered who x ps rule. seq_of_rule m law who numbered x ps rule

pub returns-clause-opens : goal.returns-clause-opens
returns-clause-opens c = λ start m law who x ps board new whose. rule_opens m law who x ps board new whose

pub returns-clause-gives : goal.returns-clause-gives
returns-clause-gives c = λ start m law who x y ps i p q rule place may. rule_gives m who x y ps i p q rule place may

pub returns-clause-reopens : goal.returns-clause-reopens
returns-clause-reopens c = λ start m law who x ps stop le rule. rule_reopens m who x ps stop le rule
