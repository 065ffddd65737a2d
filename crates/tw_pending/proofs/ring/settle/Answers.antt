use Rattle.std.proofs.Common.{◌+◌, ◌++◌, ap, arith}
use Rattle.tw_pending.specs.Order.{count}
use Rattle.tw_pending.specs.Ring.{all_of, lists_of}
use Rattle.tw_pending.specs.declared.ring.TheConstants.{DAYS}
use Rattle.tw_pending.proofs.Days.{all_near}
use Rattle.tw_pending.proofs.Rings.{next_soon}
use Rattle.tw_pending.proofs.ring.settle.Goals as goal

pub loop-tick-init : goal.loop-tick-init
loop-tick-init g c = record {
  ring = c.requires.ring;
  begun = c.requires.begun;
  all = λ e. omega arith;
  near = all_near g.E.Timed.parts.time c.args.ring.now.today 0 (lists_of c.args.ring.now.days.items) c.requires.ring.are;
}

pub loop-tick-preserved : goal.loop-tick-preserved
loop-tick-preserved g c =
    let inv = c.loop-tick.invariant in
    record {
      ring = c.next_day.ensures.ring;
      begun = c.next_day.ensures.begun;
      all = λ e.
          let before = inv.all e in
          let moved = c.next_day.ensures.all e in
          let over = ap (λ t. count g.E.Ord.cmp e (t ++ all_of (lists_of c.loop-tick.ring.days.items))) c.loop-tick-test.ensures.over in
          omega arith;
      near = c.next_day.ensures.near (c.args.ring.now.today + DAYS) inv.near;
    }

pub loop-tick-smaller : goal.loop-tick-smaller
loop-tick-smaller g c =
    let ring = c.loop-tick.ring in
    let inv = c.loop-tick.invariant in
    let soon = next_soon g.E.Timed.parts.time ring.today ring.waiting (lists_of ring.days.items) inv.ring (c.args.ring.now.today + DAYS) c.loop-tick-test.ensures.yes inv.near in
    omega (arith, c.next_day.ensures.today)
