use Rattle.std.proofs.Common.{◌∙◌}
use Rattle.tw_seq.specs.Run.{complete_run}
use Rattle.tw_seq.proofs.Going.{complete_at, continues_next, weight_next}
use Rattle.tw_seq.proofs.one_thread.OneThreadRunning.run_to.Goals as goal

pub loop-event-smaller : goal.loop-event-smaller
loop-event-smaller c = weight_next c.loop-event.self c.handle_next.new.self c.copy_next.new.event c.loop-event-test.ensures.begun c.loop-event-test.ensures.some c.in_ok-handle_next.ensures.ok

pub loop-event-preserved : goal.loop-event-preserved
loop-event-preserved c =
    let next = c.in_ok-handle_next.ensures.ok in
    record {
      case = next.0 ∙ c.loop-event.invariant.case;
      stop = next.1 ∙ c.loop-event.invariant.stop;
      goes_on = continues_next c.args.self.now c.loop-event.self c.handle_next.new.self c.loop-event.invariant.case c.loop-event.invariant.goes_on next;
    }

pub returns-clause-ok : goal.returns-clause-ok
returns-clause-ok c =
    complete_at c.loop-event.self c.loop-event-test.ensures.begun c.loop-event-test.ensures.none
    ∙ λ i. complete_run (c.loop-event.invariant.case i) (c.loop-event.invariant.stop i)
