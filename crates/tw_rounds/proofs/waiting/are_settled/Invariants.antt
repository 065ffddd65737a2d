use Rattle.std.proofs.Common.{ℕ, ◌≡◌, ◌<◌, Some, slice_get}
use Rattle.tw_rounds.specs.Members.{IsSettled}
use Rattle.tw_rounds.proofs.waiting.are_settled.Given as goal

-- those so far are settled
abbrev pub invariant-loop-member : goal.invariant-loop-member
invariant-loop-member g l = (i : ℕ) (x : _) → i < l.member-index → slice_get l.members i ≡ Some x → IsSettled x
