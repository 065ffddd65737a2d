use Rattle.tw_table.proofs.Rules.{run_before}
use Rattle.tw_table.proofs.laws.shares_are_the_run.Goals as goal

pub returns : goal.returns
returns c = λ case x shares i t s ruled there le. run_before case x shares i t s ruled there le
