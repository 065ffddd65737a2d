-- Lists that are put in order, and the event of a list that comes first (own).
use Rattle.std.specs.Prelude.{◌≡◌, ◌<◌, ◌≤◌, ℕ, Bool, true, false, cond, Option, Some, None, List, [], ◌∷◌, length}
use Rattle.std.specs.List.{slice_index_or}
use Rattle.tw_event.specs.declared.event.Event.{Event}
use Rattle.tw_event.specs.Order.{event_before}
use Rattle.tw_sim.specs.Ordered.{insert}

-- the elements of a list in order
unfoldable pub in_order : {E : Type 0} → (E → E → Bool) → List E → List E
in_order before [] = []
in_order before (x ∷ xs) = insert before x (in_order before xs)

-- the one of two events that comes first
abbrev pub earlier : Event → Option Event → Event
earlier e None = e
earlier e (Some d) = cond (event_before d e) d e

-- the one of two events that comes first, where there are any
abbrev pub earlier_of : Option Event → Option Event → Option Event
earlier_of least None = least
earlier_of least (Some e) = Some (earlier e least)

-- the least of one event and of a list
abbrev pub least_with : Option Event → List Event → Option Event
least_with least [] = least
least_with least (x ∷ xs) = least_with (Some (earlier x least)) xs

-- the events before this place of a list come before e, and those from there on do not
pub record IsPlace (e : Event) (events : List Event) (place : ℕ) : Type 0 where
  pub within : place ≤ length events
  pub before : (k : ℕ) (d : Event) → k < place → event_before (slice_index_or events k d) e ≡ true
  pub rest : (k : ℕ) (d : Event) → place ≤ k → k < length events → event_before (slice_index_or events k d) e ≡ false
