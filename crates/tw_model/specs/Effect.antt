-- What an event does at its router (modelled on the Simple Path Vector Protocol of Griffin, Shepherd, Wilfong 2002;
-- what is sent and when, sessions and failures own).
use Rattle.std.specs.Prelude.{ℕ, ◌+◌, ◌-◌, ◌==◌, Bool, true, false, ◌||◌, ◌&&◌, List, [], ◌∷◌, length, map, nat_lt, nat_le, slice_set, if◌then◌else◌}
use Rattle.std.specs.List.{filter, zip, enumerate_from, swap}
use Rattle.tw_event.specs.declared.event.Body.{Body}
use Rattle.tw_event.specs.declared.event.Body.TheVariants.{Start, Fail, Restore, Swap, Forbid, Allow, Update}
use Rattle.tw_event.specs.declared.event.Event.{Event}
use Rattle.tw_event.specs.declared.event.PathNo.{PathNo}
use Rattle.tw_model.specs.declared.limits.TheConstants.{LATEST, MOST_COUNTED}
use Rattle.tw_model.specs.declared.net.Hop.{Hop}
use Rattle.tw_model.specs.declared.state.Row.{Row}
use Rattle.tw_model.specs.Net.{Net, empty_path, hops_of, is_permitted}
use Rattle.tw_model.specs.Rules.{has_line, has_place}
use Rattle.tw_model.specs.State.{State, best, has_peer, hop, is_barred, row, slot}

-- a state, and what was sent on the way to it
pub record Reaction : Type 0 where
  pub state : State
  pub sends : List Event

-- the update of path q that v sends at time t, as its n-th message, over the link of this hop and row
abbrev pub update_to : ℕ → ℕ → PathNo → ℕ → Hop → Row → Event
update_to v t q n h r = record { time = t + h.delay; dst = h.peer; src = v; seq = n; body = Update q r.session }

-- the neighbours of v whose link is up, in ascending order
abbrev pub ups : Net → ℕ → State → List (Hop × Row)
ups net v s = filter (λ p. p.1.up) (zip (hops_of net v) s.rows)

-- an update of path q to each neighbour whose link is up, numbered from n
abbrev pub updates : Net → ℕ → ℕ → PathNo → ℕ → State → List Event
updates net v t q n s = map (λ e. update_to v t q e.0 e.1.0 e.1.1) (enumerate_from n (ups net v s))

-- q is the path in use, and every neighbour whose link is up is sent it
abbrev pub with_rib : Net → ℕ → State → PathNo → State
with_rib net v s q = record s { rib = q; counters = record s.counters { sent = s.counters.sent + length (ups net v s); changed = s.counters.changed + 1 } }

-- take the best path, and where that is a change tell each neighbour
abbrev pub settle : Net → ℕ → ℕ → State → Reaction
settle net v t s =
    if s.rib.0 == (best net v s).0 then record { state = s; sends = [] } else record {
      state = with_rib net v s (best net v s);
      sends = updates net v t (best net v s) s.counters.sent s;
    }

-- one event more is handled
abbrev pub with_handled : State → State
with_handled s = record s { counters = record s.counters { handled = s.counters.handled + 1 } }

-- one update more is dropped
abbrev pub with_dropped : State → State
with_dropped s = record s { counters = record s.counters { dropped = s.counters.dropped + 1 } }

-- r is the row of slot k
abbrev pub with_row : State → ℕ → Row → State
with_row s k r = record s { rows = slice_set s.rows k r }

-- q is the path heard in slot k
abbrev pub with_heard : State → ℕ → PathNo → State
with_heard s k q = with_row s k (record (row s k) { heard = q })

-- the link of slot k is down, and nothing is heard there
abbrev pub with_failed_link : State → ℕ → State
with_failed_link s k = with_row s k (record (row s k) { up = false; heard = empty_path })

-- the link of slot k is up, in its next session
abbrev pub with_repaired_link : State → ℕ → State
with_repaired_link s k = with_row s k (record (row s k) { up = true; session = (row s k).session + 1 })

-- places i and j of the order, from 1, change places
abbrev pub with_swap : State → ℕ → ℕ → State
with_swap s i j = record s { order = swap s.order (i - 1) (j - 1) }

-- path k of those given, from 1, is barred or not
abbrev pub with_bar : State → ℕ → Bool → State
with_bar s k barred = record s { barred = slice_set s.barred (k - 1) barred }

-- tell the neighbour of slot k alone the present path, also an empty one
abbrev pub tell : Net → ℕ → ℕ → State → ℕ → Reaction
tell net v t s k = record {
  state = record s { counters = record s.counters { sent = s.counters.sent + 1 } };
  sends = update_to v t s.rib s.counters.sent (hop net v k) (row s k) ∷ [];
}

-- the state, with nothing sent
abbrev pub without_sends : State → Reaction
without_sends s = record { state = s; sends = [] }

-- whether an update of this session is accepted over the link of slot k
abbrev pub accepts : State → ℕ → ℕ → Bool
accepts s k n = (row s k).up && ((row s k).session == n)

-- what each body does, handled aside
abbrev pub acts : Net → ℕ → State → Event → Body → Reaction
acts net v s e Start = settle net v e.time s
acts net v s e (Fail w) = if (row s (slot net v w)).up then settle net v e.time (with_failed_link s (slot net v w)) else without_sends s
acts net v s e (Restore w) = if (row s (slot net v w)).up then without_sends s else tell net v e.time (with_repaired_link s (slot net v w)) (slot net v w)
acts net v s e (Swap i j) = settle net v e.time (with_swap s i j)
acts net v s e (Forbid k) = if is_barred s k then without_sends s else settle net v e.time (with_bar s k true)
acts net v s e (Allow k) = if is_barred s k then settle net v e.time (with_bar s k false) else without_sends s
acts net v s e (Update q n) = if accepts s (slot net v e.src) n then settle net v e.time (with_heard s (slot net v e.src) q) else without_sends (with_dropped s)

-- the new state of router v, and what it sends
abbrev pub effect : Net → ℕ → State → Event → Reaction
effect net v s e = let o = acts net v s e e.body in record { state = with_handled o.state; sends = o.sends }

-- whether the body is one that router v can handle from this sender at this time
abbrev pub body_suits : Net → ℕ → Event → Body → Bool
body_suits net v e Start = e.src == v && (v == 0 && e.time == 0)
body_suits net v e (Fail w) = e.src == v && has_peer net v w
body_suits net v e (Restore w) = e.src == v && has_peer net v w
body_suits net v e (Swap i j) = e.src == v && (has_place net v i && has_place net v j)
body_suits net v e (Forbid k) = e.src == v && has_line net v k
body_suits net v e (Allow k) = e.src == v && has_line net v k
body_suits net v e (Update q n) = has_peer net v e.src && is_permitted net e.src q

-- whether the event is one for router v, the limit on its time aside
abbrev pub suits : Net → ℕ → Event → Bool
suits net v e = e.dst == v && body_suits net v e e.body

-- whether the event is one for router v
abbrev pub fits : Net → ℕ → Event → Bool
fits net v e = nat_le e.time LATEST && suits net v e

-- whether a counter would pass its limit
abbrev pub is_full : Net → ℕ → State → Event → Bool
is_full net v s e = nat_le MOST_COUNTED s.counters.handled || nat_lt MOST_COUNTED (effect net v s e).state.counters.sent
