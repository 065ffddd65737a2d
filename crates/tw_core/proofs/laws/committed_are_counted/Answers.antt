use Rattle.tw_core.proofs.Counted.{always_counted, opening_counted, run_counted}
use Rattle.tw_core.proofs.laws.committed_are_counted.Goals as goal

pub returns-clause-opens : goal.returns-clause-opens
returns-clause-opens c = λ start m C opens. opening_counted m C opens

pub returns-clause-steps : goal.returns-clause-steps
returns-clause-steps c = λ start m law numbered C xs good counted. run_counted m law numbered C xs good counted

pub returns-clause-widen : goal.returns-clause-widen
returns-clause-widen c = λ start m C r counted. counted

pub returns-clause-always : goal.returns-clause-always
returns-clause-always c = λ start m law numbered C xs r opens. always_counted m law numbered C opens xs r
