use Rattle.std.proofs.Common.{suc}
use Rattle.tw_policy.specs.Standing.{standing}
use Rattle.tw_policy.proofs.Left.{alone, alone_at}
use Rattle.tw_policy.proofs.Rests as rests
use Rattle.tw_policy.proofs.Rests.{IsLeftAfterRounds, lists}
use Rattle.tw_policy.proofs.Scripts.{scripted_before, soon_ready}
use Rattle.tw_policy.proofs.laws.one_left_rests.Goals as goal

pub returns-clause-quiet : goal.returns-clause-quiet
returns-clause-quiet c = λ case is start most n before longest one t over.
    rests.rests case is start (scripted_before case start before) t (soon_ready start most t (suc n) over) most longest
    (IsLeftAfterRounds case.net (standing case)) (lists case.net (standing case)) n (alone case.net (standing case) n one) over

pub returns-clause-there : goal.returns-clause-there
returns-clause-there c = λ case is start most n before longest t over v q one.
    alone_at case.net (standing case) n v q one _
    (rests.may_now case is start (scripted_before case start before) t (soon_ready start most t n over) most longest
    (IsLeftAfterRounds case.net (standing case)) (lists case.net (standing case)) n v over)
