use Rattle.tw_shape.proofs.Seeing.{seen_early, seen_found}
use Rattle.tw_shape.proofs.laws.watch_finds.Goals as goal

pub returns-clause-found : goal.returns-clause-found
returns-clause-found c case is every n w some seen = seen_found case is every some n w seen

pub returns-clause-early : goal.returns-clause-early
returns-clause-early c case is every n w some seen = seen_early case is every some n w seen
