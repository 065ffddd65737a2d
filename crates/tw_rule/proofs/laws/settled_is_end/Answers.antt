use Rattle.tw_rule.proofs.Ruled.{end_of_rule, handled_of}
use Rattle.tw_rule.proofs.laws.settled_is_end.Goals as goal

pub returns-clause-end : goal.returns-clause-end
returns-clause-end c = λ start m law numbered who x ps rule no_mail empty nothing last. end_of_rule m law who numbered x ps rule no_mail empty nothing last

pub returns-clause-handled : goal.returns-clause-handled
returns-clause-handled c = λ start m law numbered who x ps i r p rule place l mine last. handled_of m law who numbered x ps i r p rule place l mine last
