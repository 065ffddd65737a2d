use Rattle.std.proofs.Common.{◌↔◌, subst}
use Rattle.std.specs.Prelude.{IsErrOf, IsTrue}
use Rattle.tw_model.specs.declared.memory.OrMemory.TheVariants.{Fault}
use Rattle.tw_model.specs.State.{Router}
use Rattle.tw_handlers.specs.Calls.{counter_full, is_full_at}
use Rattle.tw_handlers.proofs.Leading.{router-now}
use Rattle.tw_handlers.proofs.trail.Trail.handle_fitting.Goals as goal

pub returns-clause-full : goal.returns-clause-full
returns-clause-full c =
    let P : Router → Type 0 = λ r. IsErrOf c.advance.result (Fault counter_full) ↔ IsTrue (is_full_at r c.args.event.now) in
    subst P (router-now c.self.inside.router c.self.inside.steps.items c.args.self.now c.self.invariant c.self.view_is) c.advance.ensures.full
