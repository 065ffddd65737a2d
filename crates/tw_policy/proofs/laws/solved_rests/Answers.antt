use Rattle.tw_policy.specs.Elimination.{MayUse}
use Rattle.tw_policy.specs.Standing.{standing}
use Rattle.tw_policy.proofs.Rests as rests
use Rattle.tw_policy.proofs.Rests.{eliminates}
use Rattle.std.proofs.Common.{suc}
use Rattle.tw_policy.proofs.Scripts.{scripted_before, soon_ready}
use Rattle.tw_policy.proofs.laws.solved_rests.Goals as goal

pub returns-clause-quiet : goal.returns-clause-quiet
returns-clause-quiet c = λ case is start most n before longest solved t over.
    rests.rests case is start (scripted_before case start before) t (soon_ready start most t (suc n) over) most longest (MayUse case.net (standing case)) (eliminates case.net (standing case)) n solved over

pub returns-clause-there : goal.returns-clause-there
returns-clause-there c = λ case is start most n before longest solved t over v here q may.
    rests.rests_there case is start (scripted_before case start before) t (soon_ready start most t n over) most longest (MayUse case.net (standing case)) (eliminates case.net (standing case)) n solved over v here q may
