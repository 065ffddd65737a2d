-- What undoing takes back, in two parts.
use Rattle.std.proofs.Common.{◌≡◌, ℕ, zero, suc, ◌≤◌, List, [], ◌∷◌, ◌++◌, append-nil, length, reverse, take, drop, sym, ap, ◌∙◌, refl, arith}
use Rattle.std.proofs.lemmas.List.{drop-append-le, length-take-le, reverse-append, take-append-drop}
use Rattle.std.proofs.lemmas.List.Concat.{flat_map-append}
use Rattle.std.specs.List.{flat_map}
use Rattle.tw_event.specs.declared.event.Event.{Event}
use Rattle.tw_model.specs.Net.{Net}
use Rattle.tw_model.specs.State.{State}
use Rattle.tw_model.specs.Effect.{effect}
use Rattle.tw_model.specs.History.{sends_of, state_after, undone}

sends_of-take : (net : Net) (v : ℕ) (s : State) (events : List Event) (m : ℕ) → sends_of net v s (take m events) ≡ take m (sends_of net v s events)
sends_of-take net v s events zero = refl
sends_of-take net v s [] (suc m) = refl
sends_of-take net v s (e ∷ events) (suc m) = ap (λ sends. (effect net v s e).sends ∷ sends) (sends_of-take net v (effect net v s e).state events m)

pub length-sends_of : (net : Net) (v : ℕ) (s : State) (events : List Event) → length (sends_of net v s events) ≡ length events
length-sends_of net v s [] = refl
length-sends_of net v s (e ∷ events) = ap suc (length-sends_of net v (effect net v s e).state events)

-- undoing down to m, and then down to n
pub undone-take : (net : Net) (v : ℕ) (s : State) (events : List Event) (n m : ℕ) → n ≤ m → m ≤ length events
    → undone net v s events m ++ undone net v s (take m events) n ≡ undone net v s events n
undone-take net v s events n m h k =
    let L : List (List Event) = sends_of net v s events in
    let long : m ≤ length L = omega (arith, length-sends_of net v s events) in
    let len : length (take m L) ≡ m = length-take-le m L long in
    let parts : drop n L ≡ drop n (take m L) ++ drop m L =
    ap (drop n) (sym (take-append-drop m L)) ∙ drop-append-le n (take m L) (drop m L) (omega arith) in
    sym (ap (λ (xs : List (List Event)). flat_map (λ sends. sends) (reverse xs)) parts
    ∙ (ap (flat_map (λ (sends : List Event). sends)) (reverse-append (drop n (take m L)) (drop m L))
    ∙ (flat_map-append (λ (sends : List Event). sends) (reverse (drop m L)) (reverse (drop n (take m L)))
    ∙ ap (λ (xs : List (List Event)). undone net v s events m ++ flat_map (λ sends. sends) (reverse (drop n xs))) (sym (sends_of-take net v s events m)))))

drop-sends_of : (net : Net) (v : ℕ) (s : State) (events : List Event) (e : Event)
    → drop (length events) (sends_of net v s (events ++ e ∷ [])) ≡ (effect net v (state_after net v s events) e).sends ∷ []
drop-sends_of net v s [] e = refl
drop-sends_of net v s (x ∷ events) e = drop-sends_of net v (effect net v s x).state events e

-- undoing the last event takes back what it sent
pub undone-last : (net : Net) (v : ℕ) (s : State) (events : List Event) (e : Event)
    → undone net v s (events ++ e ∷ []) (length events) ≡ (effect net v (state_after net v s events) e).sends
undone-last net v s events e =
    ap (λ (xs : List (List Event)). flat_map (λ sends. sends) (reverse xs)) (drop-sends_of net v s events e) ∙ append-nil (effect net v (state_after net v s events) e).sends
