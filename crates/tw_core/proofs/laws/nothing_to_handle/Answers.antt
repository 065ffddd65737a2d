use Rattle.tw_core.proofs.Wording as wording
use Rattle.tw_core.proofs.laws.nothing_to_handle.Goals as goal

pub returns : goal.returns
returns c = λ start m law C r. wording.nothing_to_handle m law C r
