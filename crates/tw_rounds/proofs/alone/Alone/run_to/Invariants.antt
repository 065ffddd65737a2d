use Rattle.std.proofs.Common.{◌≡◌, ◌≤◌, max}
use Rattle.tw_process.specs.Behaviour.{simulation_of}
use Rattle.tw_rounds.specs.Alone.{bound_of}
use Rattle.tw_sim.specs.Seq.{weight}
use Rattle.tw_rounds.proofs.alone.Alone.run_to.Given as goal

abbrev pub invariant-loop-event : goal.invariant-loop-event
invariant-loop-event g l = record {
  model : l.self.model ≡ l.fn.self.model;
  stop : l.self.stop ≡ max l.fn.self.stop l.fn.stop;
  rises : bound_of (simulation_of g.M.Event.Timed.parts g.M.Event.Ord.cmp (g.M.ProcessModel.behaviour l.fn.self.model)) l.fn.self
      ≤ bound_of (simulation_of g.M.Event.Timed.parts g.M.Event.Ord.cmp (g.M.ProcessModel.behaviour l.fn.self.model)) l.self;
}

-- a bound on the events that are still to be handled
abbrev pub decreases-loop-event : goal.decreases-loop-event
decreases-loop-event g l = weight (simulation_of g.M.Event.Timed.parts g.M.Event.Ord.cmp (g.M.ProcessModel.behaviour l.fn.self.model)) l.self.stop l.self.rest
