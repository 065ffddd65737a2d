use Rattle.std.proofs.Common.{◌+◌, ◌++◌, drop, ap, sym, ◌∙◌, append_assoc}
use Rattle.tw_ordered.specs.Buckets.{together}
use Rattle.tw_ordered.proofs.Lists.{together_from}
use Rattle.tw_calendar.proofs.ticks.append_all.Goals as goal

pub loop-tick-preserved : goal.loop-tick-preserved
loop-tick-preserved c =
    let i = c.loop-tick.tick-index in
    let lists = c.args.ticks.now in
    let bucket = c.tick-item.result in
    let old = c.loop-tick.events.items in
    let rest = together (drop (i + 1) lists) in
    let parts = together_from i bucket lists c.loop-tick-test.true c.tick-item.is in
    let more = c.in_ok-append_tick.ensures in
    ap (λ xs. xs ++ rest) more ∙ append_assoc old bucket rest ∙ ap (λ xs. old ++ xs) (sym parts) ∙ c.loop-tick.invariant
