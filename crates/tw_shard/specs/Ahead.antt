-- The newest of the events that a router can undo (own).
use Rattle.std.specs.Prelude.{◌≡◌, ◌-◌, false, List, Some, length, slice_get}
use Rattle.tw_event.specs.declared.event.Event.{Event}
use Rattle.tw_event.specs.Order.{event_same}
use Rattle.tw_shard.specs.declared.ahead.Ahead.TheInside.{Inside}
use Rattle.tw_shard.specs.declared.timeline.HandledEvent.{HandledEvent}

-- d is the newest step, the last of them
abbrev pub IsNewest : List HandledEvent → HandledEvent → Type 0
IsNewest steps d = slice_get steps (length steps - 1) ≡ Some d

-- the time and the number that are noted are those of the newest event, where there is one
abbrev pub NotesNewest : Inside → Type 0
NotesNewest a = (d : HandledEvent) → IsNewest a.steps.items d → (d.event.time ≡ a.newest_time) × (d.event.seq ≡ a.newest_seq)

-- there is a newest step, and its event is not this one
abbrev pub EndsOtherwise : Event → List HandledEvent → Type 0
EndsOtherwise e steps = (d : HandledEvent) × IsNewest steps d × (event_same e d.event ≡ false)
