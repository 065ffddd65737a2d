use Rattle.tw_rule.proofs.Visits.{welcome}
use Rattle.tw_rule.proofs.laws.mail_is_welcome.Goals as goal

pub returns : goal.returns
returns c = λ start m law who x p q k s board stands keeps there. welcome m law who x p q k s board stands keeps there
