-- The events that are pending (own).
use Rattle.std.specs.Prelude.{ℕ, ◌<◌, ◌==◌, ◌&&◌, Bool, nat_lt, not, List, filter}
use Rattle.std.specs.List.{AllByRecursion}
use Rattle.tw_event.specs.declared.event.Event.{Event}
use Rattle.tw_event.specs.Order.{event_before, event_same}
use Rattle.tw_sim.specs.Rising.{IsRising}

-- pending events, each as often as it is pending, in rising order
pub record Queue : Type 0 where
  -- all are for routers below this
  pub routers : ℕ
  pub events : List Event
  -- how many more there is memory for
  pub room : ℕ

-- each is for one of the routers
abbrev pub AreFor : ℕ → List Event → Type 0
AreFor routers events = AllByRecursion (λ e. e.dst < routers) events

-- those of some events that are for one router
abbrev pub for_router : ℕ → List Event → List Event
for_router router events = filter (λ e. e.dst == router) events

-- and those that are for others
abbrev pub for_others : ℕ → List Event → List Event
for_others router events = filter (λ e. not (e.dst == router)) events

-- whether an event is for one router, and before a limit
abbrev pub is_before : ℕ → ℕ → Event → Bool
is_before router limit e = (e.dst == router) && nat_lt e.time limit

-- its events are in order, and for its routers
pub record IsQueue (q : Queue) : Type 0 where
  pub rising : IsRising event_before event_same q.events
  pub homes : AreFor q.routers q.events
