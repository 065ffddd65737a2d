use Rattle.std.proofs.Common.{◌≡◌, ◌<◌, ℕ, [], length, get_or}
use Rattle.tw_calendar.proofs.ticks.clear_all.Given as goal

abbrev pub invariant-loop-place : goal.invariant-loop-place
invariant-loop-place l = record {
  long : length l.ticks ≡ length l.fn.ticks;
  empty : (k : ℕ) → k < l.place → get_or l.ticks k [] ≡ [];
}
