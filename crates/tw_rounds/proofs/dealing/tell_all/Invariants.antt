use Rattle.std.proofs.Common.{ℕ, ◌<◌}
use Rattle.tw_process.specs.Behaviour.{simulation_of}
use Rattle.tw_rounds.specs.Ruled.{AreRuled}
use Rattle.tw_rounds.proofs.dealing.tell_all.Given as goal

abbrev pub invariant-loop-number : goal.invariant-loop-number
invariant-loop-number g l =
    (model : g.row.M.Denot) (stop : ℕ) (flight : _) → l.bound < stop
    → AreRuled (simulation_of g.M.Event.Timed.parts g.M.Event.Ord.cmp (g.M.ProcessModel.behaviour model)) model stop l.bound flight l.fn.members
    → AreRuled (simulation_of g.M.Event.Timed.parts g.M.Event.Ord.cmp (g.M.ProcessModel.behaviour model)) model stop l.bound flight l.members
