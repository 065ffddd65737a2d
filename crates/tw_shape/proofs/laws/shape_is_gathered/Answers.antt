use Rattle.tw_shape.proofs.Stillness.{gathered}
use Rattle.tw_shape.proofs.laws.shape_is_gathered.Goals as goal

pub returns : goal.returns
returns c = gathered
