use Rattle.std.proofs.Common.{◌≡◌, [], drop}
use Rattle.tw_engine.specs.Process.{AreOwn}
use Rattle.tw_process.specs.Behaviour.{simulation_of}
use Rattle.tw_sim.specs.Seq.{insert_all}
use Rattle.tw_sim.specs.Simulation.{only}
use Rattle.tw_engine.proofs.Openings.{AreSuited}
use Rattle.tw_engine.proofs.logical.pending_of.Given as goal

-- what is left goes in
abbrev pub invariant-loop-event : goal.invariant-loop-event
invariant-loop-event g l =
    let m = simulation_of g.M.Event.Timed.parts g.M.Event.Ord.cmp (g.M.ProcessModel.behaviour l.model) in
    record {
      rest : insert_all m (only m l.number (drop l.event-index l.event-items)) l.pending ≡ insert_all m (only m l.number l.event-items) [];
      own : AreOwn m l.number l.pending;
      suited : AreSuited m (drop l.event-index l.event-items);
    }
