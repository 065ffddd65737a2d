use Rattle.tw_text.proofs.Judged.{upgraded_is_case}
use Rattle.tw_text.proofs.laws.upgrading_keeps_the_run.Goals as goal

pub returns-clause-rules : goal.returns-clause-rules
returns-clause-rules c = upgraded_is_case
