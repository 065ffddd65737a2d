use Rattle.tw_rule.proofs.Places.{all_at}
use Rattle.tw_rule.proofs.Ruled.{counted_of_rule}
use Rattle.tw_rule.specs.Rule.{Stands}
use Rattle.tw_rule.proofs.laws.committed_are_counted.Goals as goal

pub returns-clause-place : goal.returns-clause-place
returns-clause-place c = λ start m law who x ps i p rule place. (all_at (Stands m who x) ps i p place rule.each).place.counted

pub returns-clause-all : goal.returns-clause-all
returns-clause-all c = λ start m law who x ps rule. counted_of_rule m law who x ps rule
