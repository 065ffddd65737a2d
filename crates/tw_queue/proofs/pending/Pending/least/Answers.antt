use Rattle.std.proofs.Common.{◌<◌, IfSome, slice_get, ap, sym, subst, ◌∙◌}
use Rattle.tw_queue.specs.Pending.{room_of}
use Rattle.tw_ordered.specs.Queue.{IsQueue}
use Rattle.tw_queue.proofs.Halves.{queue_of_both}
use Rattle.tw_queue.proofs.Wholes.{first_home}
use Rattle.tw_queue.proofs.pending.Pending.least.Goals as goal

pub returns-clause-first : goal.returns-clause-first
returns-clause-first c = c.least_of_both.ensures ∙ ap (λ q. slice_get q.events 0) c.self.view_is

pub returns-clause-queue : goal.returns-clause-queue
returns-clause-queue c =
    let a = c.self.inside in
    subst IsQueue c.self.view_is (queue_of_both a.rest.routers (room_of a) a.calendar a.rest.events c.self.invariant.homes c.len.ensures.queue.homes)

pub returns-clause-home : goal.returns-clause-home
returns-clause-home c =
    let q = c.args.self.now in
    subst (λ o. IfSome o (λ e. e.dst < q.routers)) (sym (returns-clause-first c)) (first_home q.routers q.events (returns-clause-queue c).homes)
