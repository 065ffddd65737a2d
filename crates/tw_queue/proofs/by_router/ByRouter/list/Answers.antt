use Rattle.std.proofs.Common.{◌≡◌, ◌+◌, ap, subst, ◌∙◌, arith}
use Rattle.tw_event.specs.declared.event.Event.{Event}
use Rattle.tw_event.specs.Order.{event_same}
use Rattle.tw_sim.specs.Ordered.{times}
use Rattle.tw_queue.specs.ByRouter.{room_of}
use Rattle.tw_ordered.specs.Queue.{IsQueue}
use Rattle.tw_ordered.proofs.Spares.{sorted_whole}
use Rattle.tw_queue.proofs.Wholes.{whole_queue}
use Rattle.tw_queue.proofs.by_router.ByRouter.list.Goals as goal

pub returns-in_err-events-clause-queue : goal.returns-in_err-events-clause-queue
returns-in_err-events-clause-queue c =
    let a = c.self.inside in
    let v = c.self.invariant in
    subst IsQueue c.self.view_is (whole_queue a.routers (room_of a) a.table a.spare.items v.routers v.table v.spare)

pub returns-in_err-append_to-clause-queue : goal.returns-in_err-append_to-clause-queue
returns-in_err-append_to-clause-queue c =
    let a = c.self.inside in
    let v = c.self.invariant in
    subst IsQueue c.self.view_is (whole_queue a.routers (room_of a) a.table a.spare.items v.routers v.table v.spare)

pub returns-clause-queue : goal.returns-clause-queue
returns-clause-queue c =
    let a = c.self.inside in
    let v = c.self.invariant in
    subst IsQueue c.self.view_is (whole_queue a.routers (room_of a) a.table a.spare.items v.routers v.table v.spare)

pub returns-clause-events : goal.returns-clause-events
returns-clause-events c =
    let a = c.self.inside in
    let all = c.append_to.new.events.items in
    let copied = c.in_ok-events.ensures.items ∙ c.deref.ensures.value in
    let counts : (e : Event) → times event_same e all ≡ times event_same e a.spare.items + times event_same e a.table.events =
    λ e.
    let h = c.in_ok-append_to.ensures.ok e in
    let k = ap (times event_same e) copied in
    omega arith in
    let s = c.sort_unstable.ensures in
    sorted_whole a.spare.items a.table.events c.sort_unstable.new.self.items all c.self.invariant.table.rising counts s.permutation s.sorted ∙ ap (λ q. q.events) c.self.view_is
