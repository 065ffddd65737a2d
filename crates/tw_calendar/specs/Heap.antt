-- The heap that holds the events of an event list (own).
use Rattle.std.specs.Prelude.{List, map}
use Rattle.std.specs.declared.cmp.Reverse.{Reverse}
use Rattle.tw_event.specs.declared.event.Event.{Event}

-- the events of a heap's items
abbrev pub heap_events : List (Reverse Event) → List Event
heap_events items = map (λ x. x.0) items
