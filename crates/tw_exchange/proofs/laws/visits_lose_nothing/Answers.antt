use Rattle.tw_exchange.proofs.Weights.{nothing_lost}
use Rattle.tw_exchange.proofs.laws.visits_lose_nothing.Goals as goal

pub returns : goal.returns
returns g c = λ x w out report weight board below. nothing_lost weight x w out report board below
