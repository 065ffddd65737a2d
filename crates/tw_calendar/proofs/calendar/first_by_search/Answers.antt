use Rattle.std.proofs.Common.{sym, ◌∙◌}
use Rattle.tw_calendar.proofs.Merged.{left_is_first, right_alone, right_is_first, ring_alone}
use Rattle.tw_ordered.proofs.Released.{no_first_nothing}
use Rattle.tw_calendar.proofs.calendar.first_by_search.Goals as goal

pub returns-in-None-clause-ring : goal.returns-in-None-clause-ring
returns-in-None-clause-ring c = ring_alone c.args.ring.now c.args.wheel.now (no_first_nothing c.args.wheel.now (sym c.in-None.ensures.least)) c.taken.ensures

pub returns-then-not-copy_least-clause-wheel : goal.returns-then-not-copy_least-clause-wheel
returns-then-not-copy_least-clause-wheel c =
    right_alone c.args.ring.now c.args.wheel.now c.taken.ensures c.in-Some.ensures.rising c.if-not-copy_least.ensures.beyond ∙ sym c.in-Some.ensures.least

pub returns-then-comes_before-clause-wheel : goal.returns-then-comes_before-clause-wheel
returns-then-comes_before-clause-wheel c =
    right_is_first c.args.ring.now c.args.wheel.now c.taken.ensures c.in-Some.ensures.rising c.copy_least.new.event c.in-Some.first (sym c.if-not-copy_least.ensures.some) (sym c.in-Some.ensures.least)
    (sym c.comes_before.ensures ∙ c.if-comes_before.true)

pub returns-else-comes_before-clause-ring : goal.returns-else-comes_before-clause-ring
returns-else-comes_before-clause-ring c =
    left_is_first c.args.ring.now c.args.wheel.now c.taken.ensures c.in-Some.ensures.rising c.copy_least.new.event c.in-Some.first (sym c.if-not-copy_least.ensures.some) (sym c.in-Some.ensures.least)
    (sym c.comes_before.ensures ∙ c.if-comes_before.false)
