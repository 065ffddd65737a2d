use Rattle.std.proofs.Common.{arith}
use Rattle.std.proofs.lemmas.Bool.{cases_Bool}
use Rattle.tw_ordered.proofs.Rows.{place_last}
use Rattle.tw_ordered.proofs.ordered_queue.ends_before.Goals as goal

pub returns-in-Some : goal.returns-in-Some
returns-in-Some c = grind (arith, cases_Bool, place_last)
