use Rattle.tw_core.proofs.Headline as core
use Rattle.tw_model.specs.Case.{simulation}
use Rattle.tw_model.proofs.Lawful.{lawful, numbered}
use Rattle.tw_warp.proofs.Openings.{machine_opens}
use Rattle.tw_warp.proofs.Together.{are_run}
use Rattle.tw_warp.specs.Openings.{opening_machine}
use Rattle.tw_warp.proofs.laws.good_is_seq.Goals as goal

pub returns-clause-always : goal.returns-clause-always
returns-clause-always c = λ case is cancel stop steps.
    core.always_seq (simulation case) (lawful case is) (numbered case is) (opening_machine case cancel stop) (machine_opens case cancel stop) steps

pub returns-clause-together : goal.returns-clause-together
returns-clause-together c = λ w is all. are_run w is all
