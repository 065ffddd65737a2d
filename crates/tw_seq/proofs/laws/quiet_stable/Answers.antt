use Rattle.tw_model.proofs.Quiet as quiet
use Rattle.tw_seq.proofs.laws.quiet_stable.Goals as goal

pub returns : goal.returns
returns c = λ case is t over. quiet.stable case is t over
