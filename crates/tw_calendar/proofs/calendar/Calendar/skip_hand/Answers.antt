use Rattle.tw_event.specs.Order.{event_before, event_same}
use Rattle.tw_sim.specs.Rising.{IsRising}
use Rattle.tw_ordered.specs.InOrder.{in_order}
use Rattle.tw_ordered.specs.Times.{first_time}
use Rattle.std.proofs.Common.{◌≡◌, ◌<◌, ◌++◌, drop, slice_get, ap, ◌∙◌, subst, arith}
use Rattle.tw_ordered.proofs.Events.{event_law}
use Rattle.tw_calendar.proofs.Merged.{first_time_of, ring_taken, sooner_ring}
use Rattle.tw_ordered.proofs.Told.{on_both, on_true}
use Rattle.tw_ordered.proofs.Ordered.{rising-in_order}
use Rattle.tw_calendar.proofs.calendar.Calendar.skip_hand.Goals as goal

first : (c : goal.After-skip_hand) → first_time c.self.inside.ring < c.min.result → slice_get (in_order event_before (c.self.inside.ring ++ c.self.inside.wheel)) 0 ≡ slice_get c.self.inside.ring 0
first c l =
    let a = c.self.inside in
    let m = c.min.ensures in
    sooner_ring a.ring a.wheel c.min.result c.taken.ensures (omega (arith, c.soonest.type_inv)) l (λ e there.
    let k = c.soonest.ensures e there in
    omega arith)

pub returns-clause-taken : goal.returns-clause-taken
returns-clause-taken c =
    let a = c.self.inside in
    on_both c.skip_hand.result (λ taken before. ap (λ ring. in_order event_before (ring ++ a.wheel)) taken ∙ ring_taken a.ring a.wheel (first c before) ∙ ap (drop 1) c.self.view_is) c.skip_hand.ensures.taken
    c.skip_hand.ensures.before

pub returns-clause-before : goal.returns-clause-before
returns-clause-before c =
    let a = c.self.inside in
    on_true c.skip_hand.result (λ before.
    let m = c.min.ensures in
    let t = first_time_of (in_order event_before (a.ring ++ a.wheel)) a.ring (first c before) in
    let v = ap first_time c.self.view_is in
    omega (arith, before)) c.skip_hand.ensures.before

pub returns-clause-rising : goal.returns-clause-rising
returns-clause-rising c =
    let a = c.self.inside in
    subst (λ xs. IsRising event_before event_same xs) c.self.view_is (rising-in_order event_before event_same event_law (a.ring ++ a.wheel))
