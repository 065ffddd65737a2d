use Rattle.std.proofs.Common.{◌∙◌, ap, subst}
use Rattle.tw_seq.specs.Run.{IsBegun, IsNext, NoneBefore, complete_run}
use Rattle.tw_seq.proofs.Going.{complete_at, continues_next, weight_next}
use Rattle.tw_seq.proofs.traced_run.TracedRunRunning.run_to.Goals as goal

pub loop-event-smaller : goal.loop-event-smaller
loop-event-smaller c =
    let same = ap (λ t. t.run) c.self-in-loop-event.view_is in
    weight_next c.loop-event.self.run c.handle_next.new.self.run c.copy_next.new.event (subst IsBegun same c.loop-event-test.ensures.begun)
    (subst (λ run. IsNext run c.copy_next.new.event) same c.loop-event-test.ensures.some) c.in_ok-handle_next.ensures.ok

pub loop-event-preserved : goal.loop-event-preserved
loop-event-preserved c =
    let next = c.in_ok-handle_next.ensures.ok in
    record {
      case = next.0 ∙ c.loop-event.invariant.case;
      stop = next.1 ∙ c.loop-event.invariant.stop;
      goes_on =
          continues_next c.args.self.now.run c.loop-event.self.run c.handle_next.new.self.run c.loop-event.invariant.case c.loop-event.invariant.goes_on next;
    }

pub returns-clause-ok : goal.returns-clause-ok
returns-clause-ok c =
    let same = ap (λ t. t.run) c.self-in-loop-event.view_is in
    complete_at c.loop-event.self.run (subst IsBegun same c.loop-event-test.ensures.begun)
    (subst (λ run. NoneBefore run.stop run.pending) same c.loop-event-test.ensures.none)
    ∙ λ i. complete_run (c.loop-event.invariant.case i) (c.loop-event.invariant.stop i)
