use Rattle.std.proofs.Common.{◌==◌, ◌+◌, drop, filter, ap, ◌∙◌}
use Rattle.tw_ordered.specs.Buckets.{together}
use Rattle.tw_ordered.specs.InOrder.{least_with}
use Rattle.tw_calendar.proofs.Sought.{least_next}
use Rattle.tw_calendar.proofs.ticks.least_of_all.Goals as goal

pub loop-tick-preserved : goal.loop-tick-preserved
loop-tick-preserved c =
    let i = c.loop-tick.tick-index in
    let lists = c.args.ticks.now in
    ap (λ o. least_with o (filter (λ e. e.dst == c.args.router) (together (drop (i + 1) lists)))) c.least_at-least.ensures
    ∙ least_next (λ e. e.dst == c.args.router) c.loop-tick.least i c.tick-item.result lists c.loop-tick-test.true c.tick-item.is ∙ c.loop-tick.invariant
