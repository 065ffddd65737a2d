use Rattle.std.proofs.Common.{◌<◌, IfSome, slice_get, ap, sym, subst, ◌∙◌}
use Rattle.tw_queue.specs.ByRouter.{room_of}
use Rattle.tw_ordered.specs.Queue.{IsQueue}
use Rattle.tw_queue.proofs.Wholes.{first_home, whole_queue}
use Rattle.tw_queue.proofs.by_router.ByRouter.least.Goals as goal

pub returns-clause-first : goal.returns-clause-first
returns-clause-first c = c.self.invariant.first ∙ ap (λ q. slice_get q.events 0) c.self.view_is

pub returns-clause-queue : goal.returns-clause-queue
returns-clause-queue c =
    let a = c.self.inside in
    let v = c.self.invariant in
    subst IsQueue c.self.view_is (whole_queue a.routers (room_of a) a.table a.spare.items v.routers v.table v.spare)

pub returns-clause-home : goal.returns-clause-home
returns-clause-home c =
    let q = c.args.self.now in
    subst (λ o. IfSome o (λ e. e.dst < q.routers)) (sym (returns-clause-first c)) (first_home q.routers q.events (returns-clause-queue c).homes)
