-- Events that are kept in several lists, each in the list that a number of it names (own).
use Rattle.std.specs.Prelude.{◌≡◌, ◌<◌, ◌++◌, ℕ, List, [], ◌∷◌}
use Rattle.std.specs.List.{slice_index_or}
use Rattle.tw_event.specs.declared.event.Event.{Event}
use Rattle.tw_event.specs.Order.{event_same}
use Rattle.tw_sim.specs.Ordered.{times}

-- the events of all the lists
abbrev pub together : List (List Event) → List Event
together [] = []
together (xs ∷ lists) = xs ++ together lists

-- each event stands in the list that its key names
abbrev pub IsPlaced : (Event → ℕ) → List (List Event) → Type 0
IsPlaced key lists = (i : ℕ) (e : Event) → 0 < times event_same e (slice_index_or lists i []) → key e ≡ i
