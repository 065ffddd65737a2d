use Rattle.std.proofs.Common.{◌+◌, ◌-◌, ◌++◌, []}
use Rattle.tw_pending.specs.Order.{AreWith}
use Rattle.tw_pending.specs.Ring.{AreBefore, IsBegun, IsRing, all_of, lists_of}
use Rattle.tw_pending.specs.declared.ring.TheConstants.{DAYS}
use Rattle.tw_pending.proofs.ring.settle.Given as goal

-- events have moved, and none is as late as all days
abbrev pub invariant-loop-tick : goal.invariant-loop-tick
invariant-loop-tick g l = record {
  ring : IsRing g.E.Timed.parts.time l.ring.today l.ring.waiting (lists_of l.ring.days.items);
  begun : IsBegun g.E.Timed.parts.time l.ring.today l.tick;
  all : AreWith g.E.Ord.cmp [] (l.fn.tick ++ all_of (lists_of l.fn.ring.days.items)) (l.tick ++ all_of (lists_of l.ring.days.items));
  near : AreBefore g.E.Timed.parts.time (l.fn.ring.today + DAYS) (lists_of l.ring.days.items);
}

abbrev pub decreases-loop-tick : goal.decreases-loop-tick
decreases-loop-tick g l = l.fn.ring.today + DAYS - l.ring.today
