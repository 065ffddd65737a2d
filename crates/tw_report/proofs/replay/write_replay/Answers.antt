use Rattle.tw_device.proofs.Puts.{puts_failed, puts_then}
use Rattle.tw_report.specs.Report.{event_lines, router_lines}
use Rattle.tw_report.specs.ReplayText.{replay_text, standing_lines, told_lines}
use Rattle.tw_report.proofs.replay.write_replay.Goals as goal

pub returns-in_err-put_told : goal.returns-in_err-put_told
unfolding replay_text
returns-in_err-put_told g c =
    let told = rw c.deref.ensures.value at c.in_err-put_told.ensures in
    puts_failed c.from_residual.result _ _ _ (told_lines c.args.replay.now.answers.items) _ c.from_residual.ensures.0 told

pub returns-in_err-put_standing : goal.returns-in_err-put_standing
unfolding replay_text
returns-in_err-put_standing g c =
    let r = c.from_residual-in_err-put_standing in
    let told = rw c.deref.ensures.value at c.in_ok-put_told.ensures.0 in
    puts_then r.result _ _ _ _ (told_lines c.args.replay.now.answers.items) _ told
    (puts_failed r.result _ _ _ (standing_lines c.args.replay.now.bound c.args.replay.now.counts) _ r.ensures.0 c.in_err-put_standing.ensures)

pub returns-in_err-put_events : goal.returns-in_err-put_events
unfolding replay_text
returns-in_err-put_events g c =
    let r = c.from_residual-in_err-put_events in
    let told = rw c.deref.ensures.value at c.in_ok-put_told.ensures.0 in
    let events = rw c.deref-2.ensures.value at c.in_err-put_events.ensures in
    puts_then r.result _ _ _ _ (told_lines c.args.replay.now.answers.items) _ told
    (puts_then r.result _ _ _ _ (standing_lines c.args.replay.now.bound c.args.replay.now.counts) _ c.in_ok-put_standing.ensures.0
    (puts_failed r.result _ _ _ (event_lines c.args.instance.now c.args.replay.now.committed.items) _ r.ensures.0 events))

pub returns : goal.returns
unfolding replay_text
returns g c =
    let r = c.put_routers in
    let told = rw c.deref.ensures.value at c.in_ok-put_told.ensures.0 in
    let events = rw c.deref-2.ensures.value at c.in_ok-put_events.ensures.0 in
    let routers = rw c.deref-3.ensures.value at r.ensures in
    puts_then r.result _ _ _ _ (told_lines c.args.replay.now.answers.items) _ told
    (puts_then r.result _ _ _ _ (standing_lines c.args.replay.now.bound c.args.replay.now.counts) _ c.in_ok-put_standing.ensures.0
    (puts_then r.result _ _ _ _ (event_lines c.args.instance.now c.args.replay.now.committed.items) (router_lines c.args.instance.now 0 c.args.replay.now.routers.items) events routers))
