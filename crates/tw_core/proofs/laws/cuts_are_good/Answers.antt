use Rattle.tw_core.proofs.Cuts.{cut_at_stop, cut_opens, good_at_cut}
use Rattle.tw_core.proofs.laws.cuts_are_good.Goals as goal

pub returns-clause-good : goal.returns-clause-good
returns-clause-good c = λ start m law numbered t C cut. good_at_cut m law numbered t C cut

pub returns-clause-cut : goal.returns-clause-cut
returns-clause-cut c = λ start m law numbered C good settled last. cut_at_stop m law numbered C good settled last

pub returns-clause-opens : goal.returns-clause-opens
returns-clause-opens c = λ start m law C opens. cut_opens m law C opens
