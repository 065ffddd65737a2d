use Rattle.tw_elimination.proofs.Bounds.{wheel}
use Rattle.tw_elimination.proofs.laws.unsolved_has_a_wheel.Goals as goal

pub returns : goal.returns
returns c = λ case other. wheel case other
