use Rattle.std.proofs.Common.{◌≡◌, length}
use Rattle.tw_pending.specs.Ring.{all_of, lists_of}
use Rattle.tw_pending.proofs.pending.Pending.new.Given as goal

-- so many lists, with nothing in them
abbrev pub invariant-loop : goal.invariant-loop
invariant-loop g l = record {
  count : length l.days.items ≡ l.counter;
  none : length (all_of (lists_of l.days.items)) ≡ 0;
}
