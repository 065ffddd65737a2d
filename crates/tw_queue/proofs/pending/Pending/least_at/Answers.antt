use Rattle.std.proofs.Common.{arith, ◌≡◌, ◌==◌, IfSome, filter, slice_get, ap, sym, subst, ◌∙◌}
use Rattle.tw_queue.specs.Pending.{room_of}
use Rattle.tw_ordered.specs.Queue.{IsQueue}
use Rattle.tw_ordered.proofs.Events.{home_of_first}
use Rattle.tw_queue.proofs.Halves.{both_passed, queue_of_both, rest_alone}
use Rattle.tw_queue.proofs.pending.Pending.least_at.Goals as goal

pub returns-clause-first : goal.returns-clause-first
returns-clause-first c = grind (arith, both_passed, slice_get, filter)

pub returns-clause-queue : goal.returns-clause-queue
returns-clause-queue c =
    let a = c.self.inside in
    subst IsQueue c.self.view_is (queue_of_both a.rest.routers (room_of a) a.calendar a.rest.events c.self.invariant.homes c.least_at-3.ensures.queue.homes)

pub returns-clause-home : goal.returns-clause-home
returns-clause-home c =
    subst (λ o. IfSome o (λ e. e.dst ≡ c.args.router)) (sym (returns-clause-first c)) (home_of_first c.args.router c.args.self.now.events)

pub returns-then-not-self-clause-first : goal.returns-then-not-self-clause-first
returns-then-not-self-clause-first c =
    let a = c.self.inside in
    let r = c.args.router in
    let z = c.self.invariant.by_router c.if-not-self.true in
    c.least_at.ensures.first
    ∙ ap (λ xs. slice_get (filter (λ e. e.dst == r) xs) 0) (rest_alone a.calendar a.rest.events c.args.self.now.events z c.least_at.ensures.queue.rising (ap (λ q. q.events) c.self.view_is))

pub returns-then-not-self-clause-queue : goal.returns-then-not-self-clause-queue
returns-then-not-self-clause-queue c =
    let a = c.self.inside in
    subst IsQueue c.self.view_is (queue_of_both a.rest.routers (room_of a) a.calendar a.rest.events c.self.invariant.homes c.least_at.ensures.queue.homes)
