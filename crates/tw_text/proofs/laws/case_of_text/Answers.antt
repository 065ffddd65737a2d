use Rattle.tw_text.proofs.Told.{case_exactly}
use Rattle.tw_text.proofs.laws.case_of_text.Goals as goal

pub returns : goal.returns
returns c = case_exactly
