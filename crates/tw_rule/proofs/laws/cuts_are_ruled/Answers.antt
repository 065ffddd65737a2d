use Rattle.tw_rule.proofs.Cuts.{machine_at_cut, rule_at_cut}
use Rattle.tw_rule.proofs.laws.cuts_are_ruled.Goals as goal

pub returns-clause-rule : goal.returns-clause-rule
returns-clause-rule c = λ start m law numbered who t x ps board places whose. rule_at_cut m law numbered who t x ps board places whose

pub returns-clause-cut : goal.returns-clause-cut
returns-clause-cut c = λ start m law numbered who t x ps board places whose. machine_at_cut m law numbered who t x ps board places whose
