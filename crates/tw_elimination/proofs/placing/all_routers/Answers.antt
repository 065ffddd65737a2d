use Rattle.tw_elimination.proofs.Worklist.{range_one_more}
use Rattle.tw_elimination.proofs.placing.all_routers.Goals as goal

pub loop-router-preserved : goal.loop-router-preserved
loop-router-preserved c = range_one_more c.loop-router.router c.loop-router.routers.items c.push.new.self.items c.in_ok-push.ensures.items c.loop-router.invariant
