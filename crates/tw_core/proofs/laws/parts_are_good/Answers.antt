use Rattle.tw_core.proofs.Parts.{good_assembled, whole_adds_up}
use Rattle.tw_core.proofs.laws.parts_are_good.Goals as goal

pub returns-clause-good : goal.returns-clause-good
returns-clause-good c = λ start m law shared parts sums. good_assembled m law shared parts sums

pub returns-clause-whole : goal.returns-clause-whole
returns-clause-whole c = λ start m C good. whole_adds_up m C good
