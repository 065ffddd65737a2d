use Rattle.std.proofs.Common.{length}
use Rattle.tw_table.proofs.Openings.{in_order, new_ruled}
use Rattle.tw_table.proofs.laws.new_is_ruled.Goals as goal

pub returns-clause-ruled : goal.returns-clause-ruled
returns-clause-ruled c = λ case stop shares is some new. new_ruled case stop shares is some new

pub returns-clause-order : goal.returns-clause-order
returns-clause-order c = λ case shares new. in_order case (length shares) 0 shares new
