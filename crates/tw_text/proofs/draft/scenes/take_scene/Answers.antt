use Rattle.tw_text.proofs.Adding.{allow_said, fail_said, forbid_said, restore_said, swap_said}
use Rattle.tw_text.proofs.draft.scenes.take_scene.Goals as goal

pub returns-in-Fail-len3 : goal.returns-in-Fail-len3
returns-in-Fail-len3 c = rw (fail_said c.args.keyword c.args.numbers.now c.in-Fail-len3.is-0 c.in-Fail-len3.len_at_least c.in-Fail-len3.len_below) c.take_change.ensures

pub returns-in-Restore-len3 : goal.returns-in-Restore-len3
returns-in-Restore-len3 c = rw (restore_said c.args.keyword c.args.numbers.now c.in-Restore-len3.is-0 c.in-Restore-len3.len_at_least c.in-Restore-len3.len_below) c.take_change-in-Restore-len3.ensures

pub returns-in-Swap-len4 : goal.returns-in-Swap-len4
returns-in-Swap-len4 c = rw (swap_said c.args.keyword c.args.numbers.now c.in-Swap-len4.is-0 c.in-Swap-len4.len_at_least c.in-Swap-len4.len_below) c.take_swap.ensures

pub returns-in-Forbid-len3 : goal.returns-in-Forbid-len3
returns-in-Forbid-len3 c = rw (forbid_said c.args.keyword c.args.numbers.now c.in-Forbid-len3.is-0 c.in-Forbid-len3.len_at_least c.in-Forbid-len3.len_below) c.take_bar.ensures

pub returns-in-Allow-len3 : goal.returns-in-Allow-len3
returns-in-Allow-len3 c = rw (allow_said c.args.keyword c.args.numbers.now c.in-Allow-len3.is-0 c.in-Allow-len3.len_at_least c.in-Allow-len3.len_below) c.take_bar-in-Allow-len3.ensures
