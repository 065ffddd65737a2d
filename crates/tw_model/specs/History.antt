-- Histories of one router, oldest event first (Jefferson 1985).
use Rattle.std.specs.Prelude.{ℕ, List, reverse, drop}
use Rattle.std.specs.List.{fold, scan, flat_map}
use Rattle.tw_event.specs.declared.event.Event.{Event}
use Rattle.tw_model.specs.Net.{Net}
use Rattle.tw_model.specs.State.{State}
use Rattle.tw_model.specs.Effect.{effect}

-- the state after the events, from s on
abbrev pub state_after : Net → ℕ → State → List Event → State
state_after net v s events = fold (λ s e. (effect net v s e).state) s events

-- what each of the events sends
abbrev pub sends_of : Net → ℕ → State → List Event → List (List Event)
sends_of net v s events = scan (λ s e. (effect net v s e).state) (λ s e. (effect net v s e).sends) s events

-- what undoing the events past the first n takes back: the last event's sends first, each event's in the order sent
abbrev pub undone : Net → ℕ → State → List Event → ℕ → List Event
undone net v s events n = flat_map (λ sends. sends) (reverse (drop n (sends_of net v s events)))
