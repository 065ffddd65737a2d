-- Counters only rise, so a counter that is within its limit in the end was never full before.
use Rattle.std.proofs.Common.{◌≡◌, ℕ, zero, suc, ◌+◌, ◌≤◌, ◌<◌, false, List, [], ◌∷◌, length, take, get_or, arith}
use Rattle.std.proofs.lemmas.Bool.Decides.{nat_tests}
use Rattle.tw_event.specs.declared.event.Event.{Event}
use Rattle.tw_model.specs.declared.limits.TheConstants.{MOST_COUNTED}
use Rattle.tw_model.specs.Net.{Net}
use Rattle.tw_model.specs.State.{IsCounted, State}
use Rattle.tw_model.specs.Effect.{effect, is_full}
use Rattle.tw_model.specs.History.{state_after}
use Rattle.tw_model.proofs.Rises.{rises_acts}

-- from one end of some events to the other
record Grows (s t : State) (n : ℕ) : Type 0 where
  sent : s.counters.sent ≤ t.counters.sent
  handled : t.counters.handled ≡ s.counters.handled + n

grows : (net : Net) (v : ℕ) (s : State) (events : List Event) → Grows s (state_after net v s events) (length events)
grows net v s [] = record { sent = omega arith; handled = omega arith }
grows net v s (e ∷ events) =
    let one = rises_acts net v s e e.body in
    let more = grows net v (effect net v s e).state events in
    record { sent = omega (arith, one.sent, more.sent); handled = omega (arith, one.handled, more.handled) }

-- a first event whose handling ends within the limits is not full
not_full : (net : Net) (v : ℕ) (s : State) (e : Event) (events : List Event) → IsCounted (state_after net v s (e ∷ events)).counters → is_full net v s e ≡ false
not_full net v s e events within =
    let one = rises_acts net v s e e.body in
    let more = grows net v (effect net v s e).state events in
    let sent : (effect net v s e).state.counters.sent ≤ MOST_COUNTED = omega (arith, more.sent, within.sent) in
    let handled : s.counters.handled < MOST_COUNTED = omega (arith, one.handled, more.handled, within.handled) in
    grind (arith, nat_tests)

-- no event that was handled on the way was
pub never_full : (net : Net) (v : ℕ) (s : State) (events : List Event) (k : ℕ) (d : Event) → IsCounted (state_after net v s events).counters → k < length events
    → is_full net v (state_after net v s (take k events)) (get_or events k d) ≡ false
never_full net v s [] k d within h = absurd (omega arith)
never_full net v s (e ∷ events) zero d within h = not_full net v s e events within
never_full net v s (e ∷ events) (suc k) d within h = never_full net v (effect net v s e).state events k d within (omega arith)
