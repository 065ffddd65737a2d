use Rattle.std.proofs.Common.{◌≡◌, length}
use Rattle.tw_event.specs.declared.event.Event.{Event}
use Rattle.tw_event.specs.Order.{event_same}
use Rattle.tw_sim.specs.Ordered.{times}
use Rattle.tw_ordered.specs.Buckets.{together}
use Rattle.tw_calendar.proofs.ticks.sort_each.Given as goal

abbrev pub invariant-loop-place : goal.invariant-loop-place
invariant-loop-place l = record {
  long : length l.ticks ≡ length l.fn.ticks;
  count : (e : Event) → times event_same e (together l.ticks) ≡ times event_same e (together l.fn.ticks);
}
