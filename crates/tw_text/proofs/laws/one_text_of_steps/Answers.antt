use Rattle.tw_text.proofs.StepTold.{one_list}
use Rattle.tw_text.proofs.laws.one_text_of_steps.Goals as goal

pub returns : goal.returns
returns c = one_list
