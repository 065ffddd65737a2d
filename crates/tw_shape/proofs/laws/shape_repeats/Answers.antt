use Rattle.tw_shape.proofs.Repeating.{repeats}
use Rattle.tw_shape.proofs.laws.shape_repeats.Goals as goal

pub returns : goal.returns
returns c = repeats
