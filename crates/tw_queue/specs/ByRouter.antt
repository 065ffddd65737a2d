-- What the fields of the events by router say, and what holds of them (own).
use Rattle.std.specs.Prelude.{◌≡◌, ◌+◌, ◌-◌, ◌^◌, ℕ, length, min, slice_get, vec_capacity, vec_len}
use Rattle.tw_event.specs.Order.{event_before}
use Rattle.tw_ordered.specs.Queue.{AreFor}
use Rattle.tw_queue.specs.InTable.{IsInOrder}
use Rattle.tw_queue.specs.declared.by_router.ByRouter.TheInside.{Inside}
use Rattle.tw_sim.specs.Ordered.{insert_all}

-- the free places of the spare list, as far as the number of events may grow
abbrev pub room_of : Inside → ℕ
room_of a = min (vec_capacity a.spare - vec_len a.spare) (2 ^ 64 - 1 - a.len)

-- all events are in order, for its routers and counted, and the least one is kept
pub record AreByRouter (a : Inside) : Type 0 where
  pub routers : a.table.routers ≡ a.routers
  pub table : IsInOrder a.table
  pub spare : AreFor a.routers a.spare.items
  pub len : a.len ≡ length a.spare.items + length a.table.events
  pub first : a.first ≡ slice_get (insert_all event_before a.spare.items a.table.events) 0
