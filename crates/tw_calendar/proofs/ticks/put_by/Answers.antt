use Rattle.std.proofs.Common.{arith}
use Rattle.tw_calendar.proofs.Updates.{put_update}
use Rattle.tw_calendar.proofs.ticks.put_by.Goals as goal

pub loop-update-preserved : goal.loop-update-preserved
loop-update-preserved c =
    put_update c.args.time c.args.updates.now c.loop-update.update-index _ c.router_at-router.result c.loop-update.routers c.index-routers-router.result c.push.new.self _
    c.loop-update-test.true (omega (arith, c.if-router-routers.false)) c.index-routers-router.is c.if-not-push.ensures.added c.loop-update.invariant
