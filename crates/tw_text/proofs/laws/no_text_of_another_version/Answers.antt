use Rattle.tw_text.proofs.Suited.{no_text}
use Rattle.tw_text.proofs.laws.no_text_of_another_version.Goals as goal

pub returns : goal.returns
returns c = no_text
