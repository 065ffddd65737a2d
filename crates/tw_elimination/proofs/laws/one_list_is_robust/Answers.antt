use Rattle.tw_elimination.proofs.Complete.{list_found}
use Rattle.tw_elimination.proofs.Listing.{one_list, one_list_robust}
use Rattle.tw_elimination.proofs.laws.one_list_is_robust.Goals as goal

pub returns-clause-list : goal.returns-clause-list
returns-clause-list c = λ net is all. one_list net is all

pub returns-clause-only : goal.returns-clause-only
returns-clause-only c = λ net is place one. list_found net is place one

pub returns-clause-robust : goal.returns-clause-robust
returns-clause-robust c = λ net is all. one_list_robust net is all
