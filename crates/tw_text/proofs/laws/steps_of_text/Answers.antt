use Rattle.tw_text.proofs.StepTold.{steps_exactly}
use Rattle.tw_text.proofs.laws.steps_of_text.Goals as goal

pub returns : goal.returns
returns c = steps_exactly
