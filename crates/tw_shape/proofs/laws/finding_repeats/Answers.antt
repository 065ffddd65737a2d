use Rattle.tw_shape.proofs.Findings.{finding_first}
use Rattle.tw_shape.proofs.Forever.{found_never_quiet, found_repeats}
use Rattle.tw_shape.proofs.laws.finding_repeats.Goals as goal

pub returns-clause-repeats : goal.returns-clause-repeats
returns-clause-repeats c case is every n f some h = found_repeats case is every n f some (finding_first case every some n f h)

pub returns-clause-never_quiet : goal.returns-clause-never_quiet
returns-clause-never_quiet c case is every n f some h = found_never_quiet case is every n f some (finding_first case every some n f h)
