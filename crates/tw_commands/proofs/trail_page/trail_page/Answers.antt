use Rattle.tw_commands.proofs.Undoing.{trail_lines}
use Rattle.tw_commands.proofs.trail_page.trail_page.Goals as goal

pub returns : goal.returns
returns c =
    let first = rw c.new-page.ensures at c.in_ok-put_line.ensures.0 in
    trail_lines c.args.instance.now c.args.node c.args.events.now c.args.keep _ _ _ _ _ _ _ _ _ _ c.in_ok-new.ensures c.over-trail.ensures c.in_ok-handle_all.ensures c.router.ensures
    c.in_ok-put_undone.ensures.trail c.router-2.ensures first c.in_ok-put_standing.ensures.0 c.in_ok-put_undone.ensures.lines c.in_ok-put_standing-2.ensures.0
