use Rattle.tw_core.proofs.Headline.{at_end, none_kept}
use Rattle.tw_core.proofs.laws.settled_is_end.Goals as goal

pub returns-clause-kept : goal.returns-clause-kept
returns-clause-kept c = λ start m law C good none_flies. none_kept m law C good none_flies

pub returns-clause-end : goal.returns-clause-end
returns-clause-end c = λ start m law numbered C good settled. at_end m law numbered C good settled
