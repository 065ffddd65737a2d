use Rattle.std.proofs.Common.{ℕ, ◌≡◌, ◌*◌, ◌<◌, ◌≤◌, Some, slice_get}
use Rattle.tw_rounds.proofs.least.least_told.Given as goal

-- the least of what the shares so far tell
abbrev pub invariant-loop-share : goal.invariant-loop-share
invariant-loop-share g l = record {
  most : l.least ≤ l.fn.time;
  told : (n : ℕ) (x : _) → n < l.share → slice_get l.members (n * l.size) ≡ Some x → l.least ≤ x.least;
}
