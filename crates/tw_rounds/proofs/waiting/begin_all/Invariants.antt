use Rattle.std.proofs.Common.{ℕ, ◌≡◌, Some, length, slice_get}
use Rattle.tw_rounds.specs.Members.{beginning_of}
use Rattle.tw_rounds.proofs.waiting.begin_all.Given as goal

abbrev pub invariant-loop-number : goal.invariant-loop-number
invariant-loop-number g l = record {
  count : length l.members.items ≡ l.number;
  each : (i : ℕ) (x : _) → slice_get l.members.items i ≡ Some x → x ≡ beginning_of l.model i;
}
