use Rattle.std.proofs.Common.{arith, inl, inr}
use Rattle.tw_queue.proofs.Halves.{right_less}
use Rattle.tw_calendar.proofs.Merged.{ring_taken}
use Rattle.tw_queue.proofs.merged.skip_by_search.Goals as goal

pub returns-in-None-clause-events : goal.returns-in-None-clause-events
returns-in-None-clause-events c = grind (arith, ring_taken)

pub returns-in-None-clause-calendar : goal.returns-in-None-clause-calendar
returns-in-None-clause-calendar c = inr c.skip_least.ensures

pub returns-in-Some-clause-events : goal.returns-in-Some-clause-events
returns-in-Some-clause-events c = grind (arith, right_less)

pub returns-in-Some-clause-calendar : goal.returns-in-Some-clause-calendar
returns-in-Some-clause-calendar c = inl c.go_to.ensures
