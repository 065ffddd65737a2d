use Rattle.std.proofs.Common.{arith, sym, ◌∙◌}
use Rattle.tw_calendar.proofs.Merged.{left_is_first, right_alone, right_is_first, ring_alone}
use Rattle.tw_ordered.proofs.Released.{no_first_nothing}
use Rattle.tw_queue.proofs.merged.first_by_search.Goals as goal

pub returns-in-None-clause-calendar : goal.returns-in-None-clause-calendar
returns-in-None-clause-calendar c = ring_alone c.args.calendar.now c.args.rest.now.events (no_first_nothing c.args.rest.now.events (sym c.in-None.ensures.first)) c.are_in_order.ensures

pub returns-then-not-copy_least-clause-rest : goal.returns-then-not-copy_least-clause-rest
returns-then-not-copy_least-clause-rest c =
    right_alone c.args.calendar.now c.args.rest.now.events c.are_in_order.ensures c.in-Some.ensures.queue.rising c.if-not-copy_least.ensures.beyond ∙ sym c.in-Some.ensures.first

pub returns-then-comes_before-clause-rest : goal.returns-then-comes_before-clause-rest
returns-then-comes_before-clause-rest c = grind (arith, right_is_first)

pub returns-else-comes_before-clause-calendar : goal.returns-else-comes_before-clause-calendar
returns-else-comes_before-clause-calendar c = grind (arith, left_is_first)
