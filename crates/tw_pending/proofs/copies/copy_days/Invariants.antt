use Rattle.std.proofs.Common.{◌≡◌, ◌+◌, ◌≤◌, ◌++◌, length, vec_capacity, vec_len}
use Rattle.tw_pending.proofs.Copied.{left_in}
use Rattle.tw_pending.specs.Ring.{all_of, lists_of}
use Rattle.tw_pending.proofs.copies.copy_days.Given as goal

-- what is left goes behind, and has room
abbrev pub invariant-loop-day : goal.invariant-loop-day
invariant-loop-day g l = record {
  behind : l.events.items ++ left_in l.day-index l.days ≡ l.fn.events.items ++ all_of (lists_of l.days);
  room : vec_len l.events + length (left_in l.day-index l.days) ≤ vec_capacity l.events;
}
