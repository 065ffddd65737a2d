use Rattle.tw_run.proofs.Dealt.{one_more}
use Rattle.tw_run.specs.Dealing.{owner_after}
use Rattle.tw_run.proofs.dealing.owners.Goals as goal

pub loop-router-preserved : goal.loop-router-preserved
loop-router-preserved c =
    one_more (owner_after c.args.asked c.args.workers c.args.routers c.args.checkpoints) c.loop-router.router c.loop-router.owners.items _
    c.owner_of.result c.in_ok-push.ensures.items c.loop-router.invariant c.owner_of.ensures
