use Rattle.std.proofs.Common.{suc}
use Rattle.tw_policy.specs.Standing.{standing}
use Rattle.tw_policy.proofs.OneList.{solved}
use Rattle.tw_policy.specs.Elimination.{MayUse}
use Rattle.tw_policy.proofs.Rests.{eliminates, rests}
use Rattle.tw_policy.proofs.Robust.{still_one_list}
use Rattle.tw_policy.proofs.Safe.{list_stands}
use Rattle.tw_policy.proofs.Scripts.{scripted_before, soon_ready}
use Rattle.tw_policy.proofs.laws.one_list_rests.Goals as goal

pub returns-clause-given : goal.returns-clause-given
returns-clause-given c = λ case is keeps place one n all start most before longest t over.
    rests case is start (scripted_before case start before) t (soon_ready start most t (suc n) over) most longest (MayUse case.net (standing case)) (eliminates case.net (standing case)) n
    (solved case.net (standing case) place (still_one_list case is keeps place one) n all) over

pub returns-clause-standing : goal.returns-clause-standing
returns-clause-standing c = λ case other is alike ranks place one n all start most before longest t over.
    rests other is start (scripted_before other start before) t (soon_ready start most t (suc n) over) most longest
    (MayUse other.net (standing other)) (eliminates other.net (standing other)) n
    (solved other.net (standing other) place (list_stands case other alike ranks place one) n all) over
