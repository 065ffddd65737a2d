use Rattle.std.proofs.Common.{◌∙◌, ap}
use Rattle.tw_exchange.specs.AnyBoard.{any_homeless, workers}
use Rattle.tw_exchange.proofs.Homes.{in_turn}
use Rattle.tw_exchange.proofs.laws.in_turn_none_is_homeless.Goals as goal

pub returns : goal.returns
returns g c = λ x out turn some. ap (λ owners. any_homeless g.E.Timed.parts owners (workers x) out) turn ∙ in_turn g.E.Timed.parts (workers x) out some
