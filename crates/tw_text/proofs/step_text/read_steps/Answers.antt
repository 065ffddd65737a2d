use Rattle.tw_text.proofs.StepTold.{found_steps, only_steps}
use Rattle.tw_text.proofs.step_text.read_steps.Goals as goal

pub returns-clause-found : goal.returns-clause-found
returns-clause-found c = found_steps _ c.args.text.now c.read_exactly.ensures

pub returns-clause-only : goal.returns-clause-only
returns-clause-only c = λ steps is e. only_steps _ c.args.text.now steps is e c.read_exactly.ensures
