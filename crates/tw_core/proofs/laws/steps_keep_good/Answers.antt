use Rattle.tw_core.proofs.Steps.{next_keeps, run_keeps}
use Rattle.tw_core.proofs.laws.steps_keep_good.Goals as goal

pub returns-clause-step : goal.returns-clause-step
returns-clause-step c = λ start m law C x good. (next_keeps m law C x good).good

pub returns-clause-run : goal.returns-clause-run
returns-clause-run c = λ start m law C xs good. (run_keeps m law C xs good).good
