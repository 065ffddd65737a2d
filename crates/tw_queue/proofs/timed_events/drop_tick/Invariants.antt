use Rattle.std.proofs.Common.{ℕ, ◌≡◌, ◌==◌, ◌<◌, ◌≤◌, ◌-◌, filter, length, map, not, get_or}
use Rattle.tw_event.specs.declared.event.Event.{Event}
use Rattle.tw_event.specs.Order.{event_same}
use Rattle.tw_sim.specs.Ordered.{times}
use Rattle.tw_queue.proofs.timed_events.drop_tick.Given as goal

abbrev pub invariant-loop-place : goal.invariant-loop-place
invariant-loop-place l =
    (l.row.items ≡ map (λ e. e.time) l.events.items) × (l.place ≤ length l.events.items) × ((k : ℕ) → k < l.place → get_or l.row.items k 0 ≡ l.time → ⊥)
    × ((e : Event) → times event_same e (filter (λ d. not (d.time == l.time)) l.events.items) ≡ times event_same e (filter (λ d. not (d.time == l.time)) l.fn.events.items))

abbrev pub decreases-loop-place : goal.decreases-loop-place
decreases-loop-place l = length l.row.items - l.place
