use Rattle.tw_core.proofs.Headline as headline
use Rattle.tw_core.proofs.laws.good_is_seq.Goals as goal

pub returns-clause-good : goal.returns-clause-good
returns-clause-good c = λ start m law numbered C good. headline.good_is_seq m law numbered C good

pub returns-clause-always : goal.returns-clause-always
returns-clause-always c = λ start m law numbered C xs opens. headline.always_seq m law numbered C opens xs
