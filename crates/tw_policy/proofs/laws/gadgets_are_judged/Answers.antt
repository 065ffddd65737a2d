use Rattle.std.proofs.Common.{refl}
use Rattle.tw_model.specs.Net.{hops_of, path, paths_of}
use Rattle.tw_policy.specs.DisputeWheel.{hop}
use Rattle.tw_policy.specs.Gadgets.{numbered}
use Rattle.tw_policy.proofs.laws.gadgets_are_judged.Goals as goal

pub returns-clause-disagree : goal.returns-clause-disagree
unfolding hops_of path paths_of
returns-clause-disagree c = refl

pub returns-clause-naughty : goal.returns-clause-naughty
unfolding hops_of path paths_of
returns-clause-naughty c = refl

pub returns-clause-bad : goal.returns-clause-bad
unfolding hops_of path paths_of
returns-clause-bad c = refl

pub returns-clause-ring : goal.returns-clause-ring
unfolding hops_of path paths_of
returns-clause-ring c = refl

pub returns-clause-good : goal.returns-clause-good
unfolding hops_of path paths_of
returns-clause-good c = refl

pub returns-clause-left : goal.returns-clause-left
unfolding hops_of path paths_of
returns-clause-left c = refl

pub returns-clause-wheel : goal.returns-clause-wheel
unfolding hops_of path paths_of
returns-clause-wheel c = (
  record { ranked = refl; leads = hop 1 (numbered 2) (numbered 5) refl refl },
  (record { ranked = refl; leads = hop 2 (numbered 4) (numbered 3) refl refl }, tt),
)
