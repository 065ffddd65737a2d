use Rattle.tw_policy.proofs.Stuck as stuck
use Rattle.tw_policy.proofs.laws.stuck_has_a_wheel.Goals as goal

pub returns : goal.returns
returns c = λ net states left halt v choice.
    let wheel = stuck.stuck_wheel net states left halt v choice in
    (wheel.one, wheel.others, wheel.is)
