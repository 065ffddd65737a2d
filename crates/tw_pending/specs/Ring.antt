-- Events of the tick at hand, of the next ticks, in a list for each, and all others, in a heap (own, after Brown, Calendar queues,
-- 1988).
use Rattle.std.specs.Prelude.{ℕ, ◌+◌, ◌≡◌, ◌≤◌, ◌<◌, ◌^◌, ◌%◌, ◌⊎◌, List, [], ◌∷◌, ◌++◌, Some, length, map, remove, slice_get, slice_set}
use Rattle.std.specs.List.{AllByRecursion}
use Rattle.std.specs.declared.cmp.Ordering.{Ordering}
use Rattle.std.specs.declared.cmp.Reverse.{Reverse}
use Rattle.std.specs.declared.vec.Vec.{Vec}
use Rattle.tw_pending.specs.Order.{count, in_order}
use Rattle.tw_pending.specs.declared.ring.TheConstants.{DAYS}

-- the lists in vectors
abbrev pub lists_of : {E Z : Type 0} → List (Vec E Z) → List (List E)
lists_of days = map (λ day. day.items) days

-- all that stands in them
abbrev pub all_of : {E : Type 0} → List (List E) → List E
all_of [] = []
all_of (day ∷ days) = day ++ all_of days

-- the events of a heap
abbrev pub events_of : {E : Type 0} → List (Reverse E) → List E
events_of items = map (λ x. x.0) items

-- those of a heap and of the lists
abbrev pub waiting_in : {E : Type 0} → List (Reverse E) → List (List E) → List E
waiting_in items days = events_of items ++ all_of days

-- those of a tick, of a heap and of the lists, in rising order
abbrev pub all_in : {E : Type 0} → (E → E → Ordering) → List E → List (Reverse E) → List (List E) → List E
all_in cmp tick items days = in_order cmp (tick ++ waiting_in items days)

module _ {E : Type 0} (time : E → ℕ) (today : ℕ) where
  -- a later event, by less than all days, whose tick has this place
  pub record IsOn (place : ℕ) (e : E) : Type 0 where
    pub at : time e % DAYS ≡ place
    pub later : today < time e
    pub near : time e < today + DAYS
    pub fits : time e < 2 ^ 64

  -- each list has the events of one tick
  abbrev pub AreDays : ℕ → List (List E) → Type 0
  AreDays place [] = Unit {0}
  AreDays place (day ∷ days) = AllByRecursion (IsOn place) day × AreDays (place + 1) days

  -- so many events wait in the lists, which are as many as there are days, or none
  pub record IsRing (waiting : ℕ) (days : List (List E)) : Type 0 where
    pub are : AreDays 0 days
    pub count : length (all_of days) ≡ waiting
    pub many : (length days ≡ DAYS) ⊎ (length days ≡ 0)

  -- the events of a tick that has begun: none is later than today
  abbrev pub IsBegun : List E → Type 0
  IsBegun tick = AllByRecursion (λ e. time e ≤ today) tick

  -- the least of all is one of these events, a tick's and a heap's: one of them is no later than today, or none waits in the lists
  abbrev pub IsDue : (E → E → Ordering) → ℕ → List E → Type 0
  IsDue cmp waiting events = (waiting ≡ 0) ⊎ ((e : E) × (0 < count cmp e events) × (time e ≤ today))

-- all events of the lists are before a time
abbrev pub AreBefore : {E : Type 0} → (E → ℕ) → ℕ → List (List E) → Type 0
AreBefore time horizon days = AllByRecursion (λ e. time e < horizon) (all_of days)

-- of one list, the one at this place, this event is gone
abbrev pub IsRemovedAt : {E : Type 0} → E → ℕ → List E → List (List E) → List (List E) → Type 0
IsRemovedAt event place day old new = (at : ℕ) × (at < length day) × (slice_get day at ≡ Some event) × (new ≡ slice_set old place (remove day at))
