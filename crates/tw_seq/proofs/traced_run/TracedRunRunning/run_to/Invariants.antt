use Rattle.std.proofs.Common.{◌≡◌, max}
use Rattle.tw_model.specs.Case.{simulation}
use Rattle.tw_sim.specs.Seq.{weight}
use Rattle.tw_seq.specs.Run.{Continues}
use Rattle.tw_seq.proofs.traced_run.TracedRunRunning.run_to.Given as goal

abbrev pub invariant-loop-event : goal.invariant-loop-event
invariant-loop-event l = record {
  case : l.self.run.case ≡ l.fn.self.run.case;
  stop : l.self.run.stop ≡ max l.fn.self.run.stop l.fn.stop;
  goes_on : Continues l.fn.self.run l.self.run;
}

-- a bound on the events that are still to be handled
abbrev pub decreases-loop-event : goal.decreases-loop-event
decreases-loop-event l = weight (simulation l.self.run.case) l.self.run.stop l.self.run.pending
