-- Counters only rise, and what an event does leaves the one of events handled to the event itself.
use Rattle.std.proofs.Common.{◌≡◌, ℕ, ◌≤◌, arith}
use Rattle.tw_event.specs.declared.event.Body.{Body}
use Rattle.tw_event.specs.declared.event.Body.TheVariants.{Start, Fail, Restore, Swap, Forbid, Allow, Update}
use Rattle.tw_event.specs.declared.event.Event.{Event}
use Rattle.tw_model.specs.declared.state.Counters.{Counters}
use Rattle.tw_model.specs.Net.{Net}
use Rattle.tw_model.specs.State.{State}
use Rattle.tw_model.specs.Effect.{acts, settle, with_swap}

-- what an event does to the counters, the one of events handled aside
pub record Rises (a b : Counters) : Type 0 where
  pub sent : a.sent ≤ b.sent
  pub handled : b.handled ≡ a.handled

rises_settle : (net : Net) (v t : ℕ) (s : State) → Rises s.counters (settle net v t s).state.counters
rises_settle net v t s = grind arith

pub rises_acts : (net : Net) (v : ℕ) (s : State) (e : Event) (b : Body) → Rises s.counters (acts net v s e b).state.counters
rises_acts net v s e Start = rises_settle net v e.time s
rises_acts net v s e (Fail w) = grind arith
rises_acts net v s e (Restore w) = grind arith
rises_acts net v s e (Swap i j) = let r = rises_settle net v e.time (with_swap s i j) in record { sent = r.sent; handled = r.handled }
rises_acts net v s e (Forbid k) = grind arith
rises_acts net v s e (Allow k) = grind arith
rises_acts net v s e (Update q n) = grind arith
