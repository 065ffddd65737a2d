use Rattle.std.proofs.Common.{◌≡◌, max}
use Rattle.tw_model.specs.Case.{simulation}
use Rattle.tw_sim.specs.Seq.{weight}
use Rattle.tw_seq.specs.Run.{Continues}
use Rattle.tw_seq.proofs.logged_run.LoggedRunRunning.run_to.Given as goal

abbrev pub invariant-loop-event : goal.invariant-loop-event
invariant-loop-event l = record {
  case : l.self.case ≡ l.fn.self.case;
  stop : l.self.stop ≡ max l.fn.self.stop l.fn.stop;
  goes_on : Continues l.fn.self l.self;
}

-- a bound on the events that are still to be handled
abbrev pub decreases-loop-event : goal.decreases-loop-event
decreases-loop-event l = weight (simulation l.self.case) l.self.stop l.self.pending
