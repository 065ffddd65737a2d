use Rattle.tw_core.proofs.Wording as wording
use Rattle.tw_core.proofs.laws.committed_stays.Goals as goal

pub returns : goal.returns
returns c = λ start m law numbered C xs r good. wording.committed_stays m law numbered C xs r good
