use Rattle.std.proofs.Common.{◌<◌, List, arith, length, subst}
use Rattle.tw_event.specs.declared.event.PathNo.{PathNo}
use Rattle.tw_model.specs.Case.{simulation}
use Rattle.tw_sim.specs.Seq.{at}
use Rattle.tw_policy.proofs.Alike.{alike_back, stable_alike}
use Rattle.tw_policy.proofs.Never.{at_rest}
use Rattle.tw_policy.proofs.Scripts.{scripted_before}
use Rattle.tw_stable.proofs.Meetings.{lists_all}
use Rattle.tw_stable.proofs.laws.rest_is_found.Goals as goal

pub returns-clause-listed : goal.returns-clause-listed
returns-clause-listed c = λ case other is other_is alike splits enough start before t ready quiet.
    lists_all case is splits enough (λ v. (at (simulation other) t v).rib)
    (stable_alike other case other_is is (alike_back case other alike) (λ v. (at (simulation other) t v).rib)
    (at_rest other other_is start (scripted_before other start before) t ready quiet))

pub returns-clause-never : goal.returns-clause-never
returns-clause-never c = λ case other is other_is alike splits enough none start before t ready quiet.
    let listed = lists_all case is splits enough (λ v. (at (simulation other) t v).rib)
    (stable_alike other case other_is is (alike_back case other alike) (λ v. (at (simulation other) t v).rib)
    (at_rest other other_is start (scripted_before other start before) t ready quiet)) in
    let short : listed.0 < 0 = subst (λ (xs : List (List PathNo)). listed.0 < length xs) none listed.1 in
    absurd (omega arith)
