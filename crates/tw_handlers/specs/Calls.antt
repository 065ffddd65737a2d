-- What several calls of this crate say of a router and of a list of sends (own).
-- `early` and `late` are the router as a call begins and ends, `before` and `after` the items of the list.
use Rattle.std.specs.Prelude.{ℕ, ◌≡◌, ◌<◌, ◌≤◌, ◌↔◌, ◌++◌, Bool, List, Result, IsErrOf, OnErr, OnOk}
use Rattle.tw_event.specs.declared.event.Event.{Event}
use Rattle.tw_model.specs.declared.limits.TheConstants.{LATEST, MOST_COUNTED}
use Rattle.tw_model.specs.declared.memory.OrMemory.{OrMemory}
use Rattle.tw_model.specs.declared.memory.OrMemory.TheVariants.{Fault}
use Rattle.tw_model.specs.Net.{Net}
use Rattle.tw_model.specs.State.{Router}
use Rattle.tw_model.specs.Effect.{Reaction, effect, is_full, with_handled}
use Rattle.tw_handlers.specs.declared.fault.CounterFull.{CounterFull}

-- the one value of `CounterFull`
abbrev pub counter_full : CounterFull
counter_full = record {}

-- what the event does at the router
abbrev pub effect_at : Router → Event → Reaction
effect_at r e = effect r.net r.node r.state e

-- the router once it has handled the event
abbrev pub after_event : Router → Event → Router
after_event r e = record r { state = (effect_at r e).state }

-- whether the event would take a counter of the router past its limit
abbrev pub is_full_at : Router → Event → Bool
is_full_at r e = is_full r.net r.node r.state e

-- the reaction, with one event more counted as handled
abbrev pub with_count : Reaction → Reaction
with_count x = record { state = with_handled x.state; sends = x.sends }

-- the instance is the router's, the time within its limit, and one event more can be counted
pub record CanReact (net : Net) (router : Router) (time : ℕ) : Type 0 where
  pub own : net ≡ router.net
  pub in_time : time ≤ LATEST
  pub room : router.state.counters.handled < MOST_COUNTED

-- on Ok the router has the reaction's state and the list its sends; on Err nothing changed; `CounterFull` comes exactly where it would send too many
pub record Reacts {A : Type 0} (early late : Router) (before after : List Event) (x : Reaction) (result : Result A (OrMemory CounterFull)) : Type 0 where
  pub state : OnOk result (late ≡ record early { state = x.state })
  pub sends : OnOk result (after ≡ before ++ x.sends)
  pub err : OnErr result (late ≡ early)
  pub unsent : OnErr result (after ≡ before)
  pub full : IsErrOf result (Fault counter_full) ↔ (MOST_COUNTED < x.state.counters.sent)
