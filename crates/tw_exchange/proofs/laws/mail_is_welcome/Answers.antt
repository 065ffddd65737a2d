use Rattle.tw_exchange.specs.AnyBoard.{visited}
use Rattle.tw_exchange.proofs.Boards.{handed_home, handed_late}
use Rattle.tw_exchange.proofs.Least.{bound_all}
use Rattle.tw_exchange.proofs.laws.mail_is_welcome.Goals as goal

pub returns-clause-home : goal.returns-clause-home
returns-clause-home g c = λ x w out board. handed_home x w out board

pub returns-clause-late : goal.returns-clause-late
returns-clause-late g c = λ x w out report below. handed_late g.E.Timed.parts x w out report below

pub returns-clause-left : goal.returns-clause-left
returns-clause-left g c = λ x w out report. bound_all g.E.Timed.parts (visited g.E.Timed.parts w out report x).reports (visited g.E.Timed.parts w out report x).mail x.stop
