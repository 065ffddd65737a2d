use Rattle.std.proofs.Common.{ℕ, List, ◌≡◌, ◌<◌, []}
use Rattle.tw_process.specs.Behaviour.{simulation_of}
use Rattle.tw_rounds.specs.Alone.{AreCommitted}
use Rattle.tw_sequential.specs.Run.{Run}
use Rattle.tw_rounds.proofs.waiting.clear_waiting.Given as goal

-- nothing waits at those before
abbrev pub invariant-loop-place : goal.invariant-loop-place
invariant-loop-place g l =
    (run : Run g.row.M.Denot g.row.M-Event.Denot) (waits : ℕ → List g.row.M-Event.Denot) → let m = simulation_of g.M.Event.Timed.parts g.M.Event.Ord.cmp (g.M.ProcessModel.behaviour run.model) in
    AreCommitted m run waits l.fn.members → (later : ℕ → List g.row.M-Event.Denot) × AreCommitted m run later l.members × ((r : ℕ) → r < l.place → later r ≡ [])
