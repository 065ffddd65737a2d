use Rattle.tw_handlers.proofs.Leading.{router-now}
use Rattle.tw_handlers.proofs.trail.Trail.router.Goals as goal

pub returns : goal.returns
returns c = router-now c.self.inside.router c.self.inside.steps.items c.args.self.now c.self.invariant c.self.view_is
