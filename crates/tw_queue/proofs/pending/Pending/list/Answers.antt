use Rattle.std.proofs.Common.{ap, subst, ◌∙◌, arith}
use Rattle.tw_event.specs.Order.{event_same}
use Rattle.tw_sim.specs.Ordered.{times}
use Rattle.tw_queue.specs.Pending.{room_of}
use Rattle.tw_ordered.specs.Queue.{IsQueue}
use Rattle.tw_queue.proofs.Halves.{queue_of_both, sorted_both}
use Rattle.tw_queue.proofs.pending.Pending.list.Goals as goal

pub returns-in_err-events-clause-queue : goal.returns-in_err-events-clause-queue
returns-in_err-events-clause-queue c =
    let a = c.self.inside in
    subst IsQueue c.self.view_is (queue_of_both a.rest.routers (room_of a) a.calendar a.rest.events c.self.invariant.homes c.list.ensures.queue.homes)

pub returns-in_err-append_to-clause-queue : goal.returns-in_err-append_to-clause-queue
returns-in_err-append_to-clause-queue c =
    let a = c.self.inside in
    subst IsQueue c.self.view_is (queue_of_both a.rest.routers (room_of a) a.calendar a.rest.events c.self.invariant.homes c.list.ensures.queue.homes)

pub returns-clause-queue : goal.returns-clause-queue
returns-clause-queue c =
    let a = c.self.inside in
    subst IsQueue c.self.view_is (queue_of_both a.rest.routers (room_of a) a.calendar a.rest.events c.self.invariant.homes c.list.ensures.queue.homes)

pub returns-clause-events : goal.returns-clause-events
returns-clause-events c =
    let a = c.self.inside in
    let all = c.append_to.new.events.items in
    let s = c.sort_unstable.ensures in
    sorted_both a.calendar a.rest.events all c.sort_unstable.new.self.items (λ e.
    let h = c.in_ok-append_to.ensures.ok e in
    let k = ap (times event_same e) c.in_ok-events.ensures.events in
    omega arith) s.permutation s.sorted ∙ ap (λ q. q.events) c.self.view_is
