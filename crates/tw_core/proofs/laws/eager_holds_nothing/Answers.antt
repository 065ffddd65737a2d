use Rattle.tw_core.proofs.Eager.{run_eager}
use Rattle.tw_core.proofs.laws.eager_holds_nothing.Goals as goal

pub returns-clause-cancel : goal.returns-clause-cancel
returns-clause-cancel c = λ start m C xs. (run_eager m C xs).cancel

pub returns-clause-held : goal.returns-clause-held
returns-clause-held c = λ start m C xs eager none. (run_eager m C xs).held eager none
