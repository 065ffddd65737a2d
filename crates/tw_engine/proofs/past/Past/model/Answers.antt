use Rattle.std.proofs.Common.{ap}
use Rattle.tw_engine.proofs.past.Past.model.Goals as goal

pub returns : goal.returns
returns g c = ap (λ p. p.model) c.self.view_is
