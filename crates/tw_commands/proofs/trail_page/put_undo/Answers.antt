use Rattle.std.proofs.Common.{◌++◌, codes}
use Rattle.tw_commands.specs.Trail.{send_lines}
use Rattle.tw_device.proofs.Puts.{puts_failed, puts_then}
use Rattle.tw_report.specs.Lines.{event_words}
use Rattle.tw_report.specs.Words.{line}
use Rattle.tw_commands.proofs.trail_page.put_undo.Goals as goal

pub returns-in_err-put_all : goal.returns-in_err-put_all
returns-in_err-put_all g c = puts_failed c.from_residual.result _ _ _ (codes "undo ") _ c.from_residual.ensures.0 c.in_err-put_all.ensures

pub returns-in_err-put_event : goal.returns-in_err-put_event
returns-in_err-put_event g c =
    let r = c.from_residual-in_err-put_event in
    let event = line (event_words c.args.instance.now c.args.event.now) in
    let sends = send_lines c.args.instance.now c.args.sends.now in
    puts_then r.result _ _ _ _ (codes "undo ") (event ++ sends) c.in_ok-put_all.ensures.0 (puts_failed r.result _ _ _ event sends r.ensures.0 c.in_err-put_event.ensures)

pub returns : goal.returns
returns g c =
    let r = c.put_sends in
    let event = line (event_words c.args.instance.now c.args.event.now) in
    let sends = send_lines c.args.instance.now c.args.sends.now in
    puts_then r.result _ _ _ _ (codes "undo ") (event ++ sends) c.in_ok-put_all.ensures.0 (puts_then r.result _ _ _ _ event sends c.in_ok-put_event.ensures.0 r.ensures)
