use Rattle.tw_table.proofs.Visiting.{is_visit}
use Rattle.tw_table.proofs.laws.visits_are_exact.Goals as goal

pub returns : goal.returns
returns c = λ case x w out report is board within late home. is_visit case x w out report is board within late home
