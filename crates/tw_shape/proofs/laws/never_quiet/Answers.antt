use Rattle.tw_shape.proofs.Repeating.{never_quiet}
use Rattle.tw_shape.proofs.laws.never_quiet.Goals as goal

pub returns : goal.returns
returns c = never_quiet
