use Rattle.std.proofs.Common.{ℕ, List, ◌≡◌, ◌<◌, ◌≤◌, Some, slice_get}
use Rattle.tw_process.specs.Behaviour.{simulation_of}
use Rattle.tw_rounds.specs.Alone.{AreCommitted}
use Rattle.tw_sequential.specs.Run.{Run}
use Rattle.tw_rounds.proofs.waiting.raise_all.Given as goal

-- those before know the bound
abbrev pub invariant-loop-place : goal.invariant-loop-place
invariant-loop-place g l = record {
  same : (run : Run g.row.M.Denot g.row.M-Event.Denot) (waits : ℕ → List g.row.M-Event.Denot) → let m = simulation_of g.M.Event.Timed.parts g.M.Event.Ord.cmp (g.M.ProcessModel.behaviour run.model) in
      run.stop ≡ l.bound → AreCommitted m run waits l.fn.members → AreCommitted m run waits l.members;
  raised : (i : ℕ) (x : _) → i < l.place → slice_get l.members i ≡ Some x → l.bound ≤ x.process.bound;
}
