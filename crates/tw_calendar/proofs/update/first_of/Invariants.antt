use Rattle.std.proofs.Common.{◌≡◌, ℕ, None, drop, option_map}
use Rattle.std.specs.Option.{option_copied}
use Rattle.tw_ordered.specs.InOrder.{least_with}
use Rattle.tw_calendar.specs.Update.{event_at, events_at}
use Rattle.tw_calendar.proofs.update.first_of.Given as goal

abbrev pub invariant-loop-update : goal.invariant-loop-update
invariant-loop-update l =
    (time : ℕ) → least_with (option_map (event_at time) (option_copied l.least)) (events_at time (drop l.update-index l.updates)) ≡ least_with None (events_at time l.updates)
