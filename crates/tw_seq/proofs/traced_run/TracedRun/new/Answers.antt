use Rattle.std.proofs.Common.{◌≡◌, IfSome, ap, subst, sym, ◌∙◌}
use Rattle.tw_seq.specs.Traced.{lists_of, logs_after, traces_after}
use Rattle.tw_seq.proofs.Noted.{opening_logs_are, opening_traces_are}
use Rattle.tw_seq.proofs.traced_run.TracedRun.new.Goals as goal
use Rattle.tw_seq.proofs.traced_run.TracedRun.new.Goals.{else-retains, then-retains+in_ok-empty_logs}

pub invariant_of-result : goal.invariant_of-result
invariant_of-result c =
    let run = c.in_ok-run.run' in
    let case = c.args.case.now in
    let opened = c.in_ok-run.ensures.value in
    let nodes = c.nodes-nodes.ensures.value ∙ ap (λ net. net.nodes) c.instance.ensures.value in
    record {
      begun = c.in_ok-run.ensures.begun;
      traces = c.in_ok-traces.ensures ∙ (opening_traces_are case _ nodes ∙ ap (λ r. traces_after r.case r.events) (sym opened));
      logs = elim c.if-retains.branch [
        | then-retains+in_ok-empty_logs w ↦
            subst (λ o. IfSome o (λ logs. lists_of logs.items ≡ logs_after run.case run.events)) (sym w.logs-is)
            (w.in_ok-empty_logs.ensures ∙ (opening_logs_are case _ nodes ∙ ap (λ r. logs_after r.case r.events) (sym opened)))
        | else-retains w ↦ subst (λ o. IfSome o (λ logs. lists_of logs.items ≡ logs_after run.case run.events)) (sym w.logs-is) tt
      ];
    }
