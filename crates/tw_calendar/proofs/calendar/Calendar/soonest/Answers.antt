use Rattle.tw_event.specs.Order.{event_before, event_same}
use Rattle.tw_sim.specs.Rising.{IsRising}
use Rattle.std.proofs.Common.{◌≤◌, ◌++◌, IfSome, slice_get, refl, subst, arith}
use Rattle.tw_ordered.proofs.Events.{event_law}
use Rattle.tw_calendar.proofs.Merged.{first_time_low, soonest_told}
use Rattle.tw_ordered.proofs.Ordered.{rising-in_order}
use Rattle.tw_calendar.proofs.calendar.Calendar.soonest.Goals as goal

pub returns-clause-rising : goal.returns-clause-rising
returns-clause-rising c =
    let a = c.self.inside in
    subst (λ xs. IsRising event_before event_same xs) c.self.view_is (rising-in_order event_before event_same event_law (a.ring ++ a.wheel))

pub returns-clause-soonest : goal.returns-clause-soonest
returns-clause-soonest c =
    let a = c.self.inside in
    let m = c.min.ensures in
    subst (λ xs. IfSome (slice_get xs 0) (λ e. c.min.result ≤ e.time)) c.self.view_is (soonest_told c.min.result a.ring a.wheel (λ e there.
    let l = first_time_low a.ring c.taken.ensures e there in
    let t = c.least_time.ensures in
    omega arith) (λ e there.
    let l = c.soonest.ensures e there in
    omega arith) _ refl)
