use Rattle.tw_text.proofs.Told.{one_case}
use Rattle.tw_text.proofs.laws.one_text.Goals as goal

pub returns : goal.returns
returns c = one_case
