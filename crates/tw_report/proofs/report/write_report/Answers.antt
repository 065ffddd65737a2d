use Rattle.tw_device.proofs.Puts.{puts_failed, puts_then}
use Rattle.tw_model.specs.Summary.{summary_of}
use Rattle.tw_report.specs.Report.{head_lines, logged_lines, report_text, router_lines, verdict_words}
use Rattle.tw_report.specs.Words.{line}
use Rattle.tw_report.proofs.report.write_report.Goals as goal

pub returns-in_err-put_head : goal.returns-in_err-put_head
unfolding report_text
returns-in_err-put_head g c = puts_failed c.from_residual.result _ _ _ (head_lines (summary_of c.args.outcome.now)) _ c.from_residual.ensures.0 c.in_err-put_head.ensures

pub returns-in_err-put_log : goal.returns-in_err-put_log
unfolding report_text
returns-in_err-put_log g c =
    let r = c.from_residual-in_err-put_log in
    let told = rw c.deref.ensures.value at c.in_err-put_log.ensures in
    puts_then r.result _ _ _ _ (head_lines (summary_of c.args.outcome.now)) _ c.in_ok-put_head.ensures.0
    (puts_failed r.result _ _ _ (logged_lines c.args.instance.now c.args.log c.args.outcome.now.events.items) _ r.ensures.0 told)

pub returns-in_err-put_routers : goal.returns-in_err-put_routers
unfolding report_text
returns-in_err-put_routers g c =
    let r = c.from_residual-in_err-put_routers in
    let log = rw c.deref.ensures.value at c.in_ok-put_log.ensures.0 in
    let told = rw c.deref-2.ensures.value at c.in_err-put_routers.ensures in
    puts_then r.result _ _ _ _ (head_lines (summary_of c.args.outcome.now)) _ c.in_ok-put_head.ensures.0
    (puts_then r.result _ _ _ _ (logged_lines c.args.instance.now c.args.log c.args.outcome.now.events.items) _ log
    (puts_failed r.result _ _ _ (router_lines c.args.instance.now 0 c.args.outcome.now.routers.items) _ r.ensures.0 told))

pub returns : goal.returns
unfolding report_text
returns g c =
    let r = c.put_verdict in
    let log = rw c.deref.ensures.value at c.in_ok-put_log.ensures.0 in
    let routers = rw c.deref-2.ensures.value at c.in_ok-put_routers.ensures.0 in
    puts_then r.result _ _ _ _ (head_lines (summary_of c.args.outcome.now)) _ c.in_ok-put_head.ensures.0
    (puts_then r.result _ _ _ _ (logged_lines c.args.instance.now c.args.log c.args.outcome.now.events.items) _ log
    (puts_then r.result _ _ _ _ (router_lines c.args.instance.now 0 c.args.outcome.now.routers.items) (line (verdict_words c.args.verdict)) routers r.ensures))
