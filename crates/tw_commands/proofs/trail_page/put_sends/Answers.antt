use Rattle.tw_commands.specs.Trail.{send_line}
use Rattle.tw_device.proofs.Puts.{each_failed, each_more}
use Rattle.tw_commands.proofs.trail_page.put_sends.Goals as goal

pub returns-in_err-put_send : goal.returns-in_err-put_send
returns-in_err-put_send g c =
    each_failed (send_line c.args.instance.now) c.args.sends.now c.loop-send.send-index _ _ _ c.from_residual.result _ _ c.loop-send-test.true c.loop-send.invariant.1
    c.from_residual.ensures.0 c.in_err-put_send.ensures

pub loop-send-preserved : goal.loop-send-preserved
loop-send-preserved g c = (
  c.in_ok-put_send.ensures.1,
  each_more (send_line c.args.instance.now) c.args.sends.now c.loop-send.send-index _ _ _ _ c.loop-send-test.true c.loop-send.invariant.1 c.in_ok-put_send.ensures.0,
)
