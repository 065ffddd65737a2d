use Rattle.tw_policy.proofs.Safe.{no_wheel_ranks, no_wheel_robust}
use Rattle.tw_policy.proofs.laws.no_wheel_is_robust.Goals as goal

pub returns-clause-given : goal.returns-clause-given
returns-clause-given c = λ net no_wheel. no_wheel_robust net no_wheel

pub returns-clause-standing : goal.returns-clause-standing
returns-clause-standing c = λ case other is other_is alike ranks no_wheel. no_wheel_ranks case other is other_is alike ranks no_wheel
