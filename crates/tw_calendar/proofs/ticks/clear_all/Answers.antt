use Rattle.std.proofs.Common.{arith}
use Rattle.tw_ordered.proofs.Lists.{together_none}
use Rattle.tw_calendar.proofs.ticks.clear_all.Goals as goal

pub returns : goal.returns
returns c =
    let end = c.loop-place-test.false in
    let invariant = c.loop-place.invariant in
    together_none c.loop-place.ticks (λ k l. invariant.empty k (omega (arith, end, invariant.long)))
