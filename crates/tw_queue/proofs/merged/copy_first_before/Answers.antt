use Rattle.std.proofs.Common.{sym, ◌∙◌, arith}
use Rattle.std.proofs.lemmas.Option.{none-some}
use Rattle.tw_queue.proofs.Halves.{not_after, times_of_first}
use Rattle.tw_calendar.proofs.Merged.{low_told}
use Rattle.tw_ordered.proofs.Told.{on_false, on_true}
use Rattle.tw_queue.proofs.merged.copy_first_before.Goals as goal

pub returns-then-min-limit-clause-none : goal.returns-then-min-limit-clause-none
returns-then-min-limit-clause-none c e h = grind (arith, low_told, times_of_first)

pub returns-then-min-limit-2-clause-none : goal.returns-then-min-limit-2-clause-none
returns-then-min-limit-2-clause-none c e h = grind (arith, times_of_first)

pub returns-clause-before : goal.returns-clause-before
returns-clause-before c = grind (arith, on_true, not_after)

pub returns-clause-none : goal.returns-clause-none
returns-clause-none c = on_false c.copy_first.result (λ beyond e h. absurd (none-some e (sym beyond ∙ h))) c.copy_first.ensures.beyond
