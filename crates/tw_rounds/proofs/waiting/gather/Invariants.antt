use Rattle.std.proofs.Common.{ℕ, ◌≡◌, ◌+◌, Some, drop, slice_get}
use Rattle.tw_core.specs.Parts.{total}
use Rattle.tw_process.specs.Behaviour.{simulation_of}
use Rattle.tw_rounds.specs.Members.{Mailed}
use Rattle.tw_sim.specs.Simulation.{times}
use Rattle.tw_rounds.proofs.waiting.gather.Given as goal

-- what is gathered, and what waits at those that are left, is all
abbrev pub invariant-loop-member : goal.invariant-loop-member
invariant-loop-member g l =
    (model : g.row.M.Denot) → let m = simulation_of g.M.Event.Timed.parts g.M.Event.Ord.cmp (g.M.ProcessModel.behaviour model) in
    ((i : ℕ) (x : Mailed g.row.M.Denot g.row.M-Event.Denot) → slice_get l.members i ≡ Some x → x.process.model ≡ model)
    → (e : g.row.M-Event.Denot) → times m e l.events.items + total (λ x. times m e x.process.pending) (drop l.member-index l.members) ≡ total (λ x. times m e x.process.pending) l.members
