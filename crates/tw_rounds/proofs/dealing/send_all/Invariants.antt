use Rattle.std.proofs.Common.{ℕ}
use Rattle.tw_process.specs.Behaviour.{simulation_of}
use Rattle.tw_rounds.specs.Ruled.{AreRuled}
use Rattle.tw_rounds.proofs.dealing.send_all.Given as goal

abbrev pub invariant-loop-share : goal.invariant-loop-share
invariant-loop-share g l =
    (model : g.row.M.Denot) (stop bound : ℕ)
    → AreRuled (simulation_of g.M.Event.Timed.parts g.M.Event.Ord.cmp (g.M.ProcessModel.behaviour model)) model stop bound l.fn.flight.items l.fn.members
    → AreRuled (simulation_of g.M.Event.Timed.parts g.M.Event.Ord.cmp (g.M.ProcessModel.behaviour model)) model stop bound l.flight.items l.members
