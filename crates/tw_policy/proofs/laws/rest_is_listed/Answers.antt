use Rattle.tw_policy.proofs.Never.{listed_at_rest, never_rests}
use Rattle.tw_policy.proofs.Scripts.{scripted_before}
use Rattle.tw_policy.proofs.laws.rest_is_listed.Goals as goal

pub returns-clause-listed : goal.returns-clause-listed
returns-clause-listed c = λ case other is other_is alike n xs found start before t ready quiet.
    listed_at_rest case other is other_is alike n xs found start (scripted_before other start before) t ready quiet

pub returns-clause-never : goal.returns-clause-never
returns-clause-never c = λ case other is other_is alike n found start before t ready quiet.
    never_rests case other is other_is alike n found start (scripted_before other start before) t ready quiet
