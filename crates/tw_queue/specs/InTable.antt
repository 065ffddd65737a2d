-- The events of a table of queues (own).
use Rattle.std.specs.Prelude.{ℕ, List}
use Rattle.tw_event.specs.declared.event.Event.{Event}
use Rattle.tw_event.specs.Order.{event_before, event_same}
use Rattle.tw_sim.specs.Rising.{IsRising}
use Rattle.tw_ordered.specs.Queue.{AreFor}

-- in rising order, and for how many routers the table has a queue
pub record Table : Type 0 where
  pub routers : ℕ
  pub events : List Event

-- the events are in order, and for its routers
pub record IsInOrder (t : Table) : Type 0 where
  pub rising : IsRising event_before event_same t.events
  pub homes : AreFor t.routers t.events
