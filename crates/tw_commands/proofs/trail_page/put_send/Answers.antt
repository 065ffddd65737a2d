use Rattle.std.proofs.Common.{codes}
use Rattle.tw_device.proofs.Puts.{puts_failed, puts_then}
use Rattle.tw_report.specs.Lines.{event_words}
use Rattle.tw_report.specs.Words.{line}
use Rattle.tw_commands.proofs.trail_page.put_send.Goals as goal

pub returns-in_err-put_all : goal.returns-in_err-put_all
returns-in_err-put_all g c = puts_failed c.from_residual.result _ _ _ (codes "send ") _ c.from_residual.ensures.0 c.in_err-put_all.ensures

pub returns : goal.returns
returns g c = puts_then c.put_event.result _ _ _ _ (codes "send ") (line (event_words c.args.instance.now c.args.send.now)) c.in_ok-put_all.ensures.0 c.put_event.ensures
