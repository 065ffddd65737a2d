use Rattle.tw_rule.proofs.Ruled.{before_of, committed_of, history_of, owners_once}
use Rattle.tw_rule.proofs.laws.routers_have_owners.Goals as goal

pub returns-clause-once : goal.returns-clause-once
returns-clause-once c = λ start m law who x ps r rule l. owners_once m law who x ps r rule l

pub returns-clause-history : goal.returns-clause-history
returns-clause-history c = λ start m law who x ps i r p rule place l mine. history_of m law who x ps i r p rule place l mine

pub returns-clause-committed : goal.returns-clause-committed
returns-clause-committed c = λ start m law numbered who x ps i r p rule place l mine. committed_of m law who numbered x ps i r p rule place l mine

pub returns-clause-before : goal.returns-clause-before
returns-clause-before c = λ start m law numbered who x ps i t p rule place le. before_of m law who numbered x ps i t p rule place le
