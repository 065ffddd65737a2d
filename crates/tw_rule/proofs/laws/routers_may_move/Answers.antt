use Rattle.std.proofs.Common.{rules}
use Rattle.tw_rule.proofs.Moved.{rule_moves}
use Rattle.tw_rule.proofs.Same.{machine_moves}
use Rattle.tw_rule.proofs.laws.routers_may_move.Goals as goal

pub returns-clause-rule : goal.returns-clause-rule
returns-clause-rule c = λ start m law who later r i j x y ps p q p2 q2 rule l first second other was is same moved. search (rules, rule_moves)

pub returns-clause-same : goal.returns-clause-same
returns-clause-same c = search (rules, machine_moves)
