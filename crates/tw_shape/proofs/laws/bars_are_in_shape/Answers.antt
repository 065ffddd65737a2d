use Rattle.tw_shape.proofs.Repeating.{same_bars}
use Rattle.tw_shape.proofs.laws.bars_are_in_shape.Goals as goal

pub returns : goal.returns
returns c = same_bars
