-- What a run left, as lists (own).
use Rattle.std.specs.Prelude.{ℕ, List}
use Rattle.tw_event.specs.declared.event.Event.{Event}
use Rattle.tw_model.specs.declared.outcome.Outcome.{Outcome}
use Rattle.tw_model.specs.declared.outcome.RouterEnd.{RouterEnd}
use Rattle.tw_model.specs.State.{State}

-- how a router stands that knows this
abbrev pub end_of : State → RouterEnd
end_of known = record { counters = known.counters; rib = known.rib }

-- the stop asked for, the time before which all is handled, and what there is at it
pub record Summary : Type 0 where
  pub stop : ℕ
  pub bound : ℕ
  pub events : List Event
  pub routers : List RouterEnd
  pub pending : List Event
  pub last_change : ℕ

-- the lists of an outcome
abbrev pub summary_of : Outcome → Summary
summary_of o = record {
  stop = o.stop;
  bound = o.bound;
  events = o.events.items;
  routers = o.routers.items;
  pending = o.pending.items;
  last_change = o.last_change;
}
