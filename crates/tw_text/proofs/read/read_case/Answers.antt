use Rattle.tw_text.proofs.Told.{found_told, only_told}
use Rattle.tw_text.proofs.read.read_case.Goals as goal

pub returns-clause-found : goal.returns-clause-found
returns-clause-found c = found_told _ c.args.text.now c.read_exactly.ensures

pub returns-clause-only : goal.returns-clause-only
returns-clause-only c = λ d is e. only_told _ c.args.text.now d is e c.read_exactly.ensures
