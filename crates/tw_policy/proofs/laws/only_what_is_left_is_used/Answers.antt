use Rattle.tw_model.specs.Case.{simulation}
use Rattle.tw_sim.specs.Seq.{at}
use Rattle.tw_policy.specs.Left.{left_after}
use Rattle.tw_policy.specs.Standing.{standing}
use Rattle.tw_policy.proofs.Left.{counted}
use Rattle.tw_policy.proofs.Rests.{IsLeftAfterRounds, lists, may_now}
use Rattle.tw_policy.proofs.Scripts.{scripted_before, soon_ready}
use Rattle.tw_policy.proofs.laws.only_what_is_left_is_used.Goals as goal

pub returns : goal.returns
returns c = λ case is start most n before longest t over v.
    counted (at (simulation case) t v).rib (left_after case.net (standing case) n v)
    (may_now case is start (scripted_before case start before) t (soon_ready start most t n over) most longest
    (IsLeftAfterRounds case.net (standing case)) (lists case.net (standing case)) n v over)
