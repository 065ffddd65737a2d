use Rattle.std.proofs.Common.{arith, ◌≡◌, ◌≤◌, Some, slice_get, ap, subst, ◌∙◌}
use Rattle.std.specs.Bool.{OnFalse}
use Rattle.tw_event.specs.declared.event.Event.{Event}
use Rattle.tw_queue.specs.Pending.{room_of}
use Rattle.tw_ordered.specs.Queue.{IsQueue}
use Rattle.tw_queue.proofs.Halves.{queue_of_both}
use Rattle.tw_calendar.proofs.Merged.{all_both, home_first}
use Rattle.tw_ordered.proofs.Told.{on_true}
use Rattle.tw_queue.proofs.pending.Pending.copy_least_before.Goals as goal

pub returns-clause-some : goal.returns-clause-some
returns-clause-some c = on_true c.copy_before.result (λ some. some ∙ ap (λ q. slice_get q.events 0) c.self.view_is) c.copy_before.ensures.some

pub returns-clause-home : goal.returns-clause-home
returns-clause-home c = grind (arith, on_true, home_first, all_both)

pub returns-clause-none : goal.returns-clause-none
returns-clause-none c = subst (λ q. OnFalse c.copy_before.result ((e : Event) → slice_get q.events 0 ≡ Some e → c.args.limit ≤ e.time)) c.self.view_is c.copy_before.ensures.none

pub returns-clause-queue : goal.returns-clause-queue
returns-clause-queue c =
    let a = c.self.inside in
    subst IsQueue c.self.view_is (queue_of_both a.rest.routers (room_of a) a.calendar a.rest.events c.self.invariant.homes c.len.ensures.queue.homes)
