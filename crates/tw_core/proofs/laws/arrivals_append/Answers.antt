use Rattle.tw_core.proofs.Wording.{arrival-front}
use Rattle.tw_core.proofs.laws.arrivals_append.Goals as goal

pub returns : goal.returns
returns c = λ start m C x front. arrival-front m C x front
