use Rattle.tw_core.proofs.Headline.{due_once}
use Rattle.tw_core.proofs.Wording.{due_asked}
use Rattle.tw_core.proofs.laws.asked_once.Goals as goal

pub returns-clause-once : goal.returns-clause-once
returns-clause-once c = λ start m law numbered C e. due_once m law numbered C e

pub returns-clause-asked : goal.returns-clause-asked
returns-clause-asked c = λ start m law C e good. due_asked m law C.bound C e good.part
