use Rattle.std.proofs.Common.{ℕ, ◌≡◌, ◌<◌, ◌≤◌, Some, slice_get}
use Rattle.tw_process.specs.Behaviour.{simulation_of}
use Rattle.tw_rounds.specs.Members.{place_of}
use Rattle.tw_rule.specs.Place.{NoneLooseBefore}
use Rattle.tw_sim.specs.Simulation.{IsLawful}
use Rattle.tw_rounds.proofs.least.least_of.Given as goal

-- the least of the members so far
abbrev pub invariant-loop-member : goal.invariant-loop-member
invariant-loop-member g l = record {
  most : l.least ≤ l.fn.time;
  loose : (i : ℕ) (x : _) → i < l.member-index → slice_get l.members i ≡ Some x → IsLawful (simulation_of g.M.Event.Timed.parts g.M.Event.Ord.cmp (g.M.ProcessModel.behaviour x.process.model))
      → NoneLooseBefore (simulation_of g.M.Event.Timed.parts g.M.Event.Ord.cmp (g.M.ProcessModel.behaviour x.process.model)) l.least (place_of x);
}
