use Rattle.std.proofs.Common.{arith, ◌∙◌}
use Rattle.tw_commands.proofs.Undoing.{lines_step, trail_step}
use Rattle.tw_commands.proofs.trail_page.put_undone.Goals as goal

pub loop-left-preserved : goal.loop-left-preserved
loop-left-preserved c =
    let opening = c.args.trail.now.opening in
    let events = c.args.events.now in
    record {
      least = omega arith;
      most = omega arith;
      trail = c.in_ok-undo_last.ensures.trail ∙ trail_step c.loop-left.trail opening events c.loop-left.left c.loop-left.invariant.trail c.loop-left.invariant.most;
      still = c.in_ok-undo_last.ensures.still;
      lines = lines_step c.loop-left.trail opening events c.args.keep c.loop-left.left _ c.args.instance.now _ _ _ _ c.loop-left.invariant.trail c.loop-left-test.true
          c.loop-left.invariant.most c.loop-left.invariant.lines c.in_ok-undo_last.ensures.lines;
    }
