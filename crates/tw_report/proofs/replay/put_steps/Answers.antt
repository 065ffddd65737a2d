use Rattle.std.proofs.Common.{◌+◌, ap, drop}
use Rattle.std.proofs.lemmas.List.{drop_more}
use Rattle.tw_device.proofs.Puts.{partway_more, puts_partway}
use Rattle.tw_report.specs.ReplayText.{step_lines}
use Rattle.tw_report.proofs.replay.put_steps.Goals as goal

pub returns-in_err-put_step : goal.returns-in_err-put_step
returns-in_err-put_step g c =
    let answers = c.args.answers.now in
    let before = c.loop-before.before in
    puts_partway c.from_residual.result _ _ (step_lines (before + 1 + 1) (drop (before + 1) answers)) _ _ _ _ _
    (ap (step_lines (before + 1)) (drop_more answers before _ c.loop-before-test.true)) c.loop-before.invariant.1 c.from_residual.ensures.0 c.in_err-put_step.ensures

pub loop-before-preserved : goal.loop-before-preserved
loop-before-preserved g c =
    let answers = c.args.answers.now in
    let before = c.loop-before.before in (
      c.in_ok-put_step.ensures.1,
      partway_more _ _ _ (step_lines (before + 1 + 1) (drop (before + 1) answers)) _ _ _
          (ap (step_lines (before + 1)) (drop_more answers before _ c.loop-before-test.true)) c.loop-before.invariant.1 c.in_ok-put_step.ensures.0,
    )
