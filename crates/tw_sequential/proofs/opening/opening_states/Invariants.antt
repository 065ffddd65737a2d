use Rattle.std.proofs.Common.{◌≡◌, ℕ, Some, length, slice_get}
use Rattle.tw_sequential.proofs.opening.opening_states.Given as goal

-- so many processes so far
abbrev pub invariant-loop-number : goal.invariant-loop-number
invariant-loop-number g l = record {
  count : length l.states.items ≡ l.number;
  each : (r : ℕ) (s : g.row.M-State.Denot) → slice_get l.states.items r ≡ Some s
      → g.M.ProcessModel.is_state l.model r s × (g.M.ProcessModel.known s ≡ (g.M.ProcessModel.behaviour l.model).start r);
}
