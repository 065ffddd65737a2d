-- What is held: events that were undone had sent it, and it was neither sent again nor taken back (own).
use Rattle.std.specs.Prelude.{ℕ, ◌<◌, ◌==◌, false, not, List, filter}
use Rattle.std.specs.List.{AllByRecursion}
use Rattle.tw_event.specs.declared.event.Event.{Event}
use Rattle.tw_event.specs.Order.{event_before, event_same}
use Rattle.tw_sim.specs.Rising.{IsRising}
use Rattle.tw_sim.specs.declared.machine.Signed.{Signed}

-- events that are held, each as often as it is held, in rising order
pub record Held : Type 0 where
  -- all were sent by routers below this
  pub routers : ℕ
  pub events : List Event
  -- how many more there is memory for
  pub room : ℕ

-- each was sent by one of the routers
abbrev pub AreFrom : ℕ → List Event → Type 0
AreFrom routers events = AllByRecursion (λ e. e.src < routers) events

-- its events are in order, and sent by its routers
pub record IsHeld (h : Held) : Type 0 where
  pub rising : IsRising event_before event_same h.events
  pub senders : AreFrom h.routers h.events

-- those of some events that one router has sent
abbrev pub sent_by : ℕ → List Event → List Event
sent_by router events = filter (λ e. e.src == router) events

-- and those that others have sent
abbrev pub sent_by_others : ℕ → List Event → List Event
sent_by_others router events = filter (λ e. not (e.src == router)) events

-- what takes an event back
abbrev pub antimessage : Event → Signed Event
antimessage e = record { plus = false; event = e }
