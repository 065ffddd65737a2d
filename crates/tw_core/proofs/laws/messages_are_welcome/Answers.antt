use Rattle.tw_core.proofs.Steps.{welcome}
use Rattle.tw_core.proofs.laws.messages_are_welcome.Goals as goal

pub returns : goal.returns
returns c = λ start m law C k x good place. welcome m law C k x good place
