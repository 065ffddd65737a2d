use Rattle.std.proofs.Common.{◌≡◌, ap, ◌∙◌}
use Rattle.tw_commands.proofs.Followed.{run_counted, run_fits, same_counted, same_events, same_fits}
use Rattle.tw_seq.specs.Run.{complete_run}
use Rattle.tw_commands.proofs.trail.follow.Goals as goal

pub trail_page-requires-clause-fits : goal.trail_page-requires-clause-fits
trail_page-requires-clause-fits c =
    let node : c.node-node.result ≡ c.args.router = c.node-node.ensures.value ∙ ap (λ r. r.node) c.router.ensures.value in
    let handled : c.handled.result.now ≡ (complete_run c.args.case.now c.args.run.now.stop).events = c.handled.ensures.value ∙ ap (λ r. r.events) c.requires.whole in
    let events = same_events c.args.router c.node-node.result (complete_run c.args.case.now c.args.run.now.stop).events c.handled.result.now c.deref.result.now node handled
    (c.deref.ensures.value ∙ c.in_ok-events.ensures) in
    same_fits c.args.case.now.net c.instance.result.now c.args.router c.node-node.result _ c.deref.result.now c.instance.ensures.value node events
    (run_fits c.args.case.now c.instance.ensures.case c.args.router c.args.run.now.stop c.requires.stop)

pub trail_page-requires-clause-counted : goal.trail_page-requires-clause-counted
trail_page-requires-clause-counted c =
    let node : c.node-node.result ≡ c.args.router = c.node-node.ensures.value ∙ ap (λ r. r.node) c.router.ensures.value in
    let events = same_events c.args.router c.node-node.result c.args.run.now.events c.handled.result.now c.deref.result.now node c.handled.ensures.value
    (c.deref.ensures.value ∙ c.in_ok-events.ensures) in
    let router = rw c.requires.own at c.router.ensures.value in
    same_counted c.args.case.now.net c.instance.result.now c.args.router c.node-node.result _ c.deref.result.now c.instance.ensures.value node events
    (run_counted c.args.case.now c.args.router c.args.run.now.events c.router.result.now router c.node-node.ensures.state)
