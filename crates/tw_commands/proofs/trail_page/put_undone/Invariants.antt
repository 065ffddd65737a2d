use Rattle.std.proofs.Common.{◌≡◌, ◌≤◌, false, drop, length, min, take}
use Rattle.tw_commands.specs.Trail.{undone_lines}
use Rattle.tw_device.proofs.Puts.{IsPartway}
use Rattle.tw_model.specs.History.{state_after}
use Rattle.tw_commands.proofs.trail_page.put_undone.Given as goal

-- the events that are left are handled still, and their lines are still to come
abbrev pub invariant-loop-left : goal.invariant-loop-left
invariant-loop-left l =
    let t = l.initial.trail.opening in
    let kept = state_after l.instance t.node t.state (take l.keep l.events) in
    record {
      least : min l.keep (length l.events) ≤ l.left;
      most : l.left ≤ length l.events;
      trail : l.trail ≡ record l.initial.trail { events = take l.left l.events };
      still : l.page.failed ≡ false;
      lines : IsPartway (undone_lines l.instance t.node kept (drop l.keep l.events)) (undone_lines l.instance t.node kept (drop l.keep (take l.left l.events)))
          l.initial.page.written l.page.written;
    }

abbrev pub decreases-loop-left : goal.decreases-loop-left
decreases-loop-left l = l.left
