-- A trail of which the last events are undone one by one.
use Rattle.std.proofs.Common.{◌≡◌, ℕ, ◌-◌, ◌<◌, ◌≤◌, List, [], ◌++◌, append-nil, append_assoc, length, drop, take, min, reverse, sym, ap, ◌∙◌, subst, arith}
use Rattle.std.proofs.lemmas.List.{drop_all, drop_min, length-take-le, take-take, take_all}
use Rattle.std.specs.List.{flat_map}
use Rattle.tw_event.specs.declared.event.Event.{Event}
use Rattle.tw_model.specs.History.{sends_of}
use Rattle.tw_handlers.specs.Trail.{History, undone_of}
use Rattle.tw_handlers.proofs.Undone.{length-sends_of, undone-take}

-- of t at least the first len events remain in u, and what the others sent was added to old
pub record IsShortened (t u : History) (old now : List Event) (len : ℕ) : Type 0 where
  pub same : u ≡ record t { events = take (length u.events) t.events }
  pub within : length u.events ≤ length t.events
  pub above : min len (length t.events) ≤ length u.events
  pub sends : now ≡ old ++ undone_of t (length u.events)

undone-none : (t : History) (n : ℕ) → length t.events ≤ n → undone_of t n ≡ []
undone-none t n h =
    let L : List (List Event) = sends_of t.opening.net t.opening.node t.opening.state t.events in
    let long : length L ≤ n = omega (arith, length-sends_of t.opening.net t.opening.node t.opening.state t.events) in
    ap (λ (xs : List (List Event)). flat_map (λ sends. sends) (reverse xs)) (drop_all n L long)

pub IsShortened-none : (t : History) (old : List Event) (len : ℕ) → IsShortened t t old old len
IsShortened-none t old len = record {
  same = ap (λ (events : List Event). record t { events = events }) (sym (take_all (length t.events) t.events (omega arith)));
  within = omega arith;
  above = omega arith;
  sends = sym (ap (λ xs. old ++ xs) (undone-none t (length t.events) (omega arith)) ∙ append-nil old);
}

pub IsShortened-more : (t u w : History) (old now more : List Event) (len : ℕ) → IsShortened t u old now len → len < length u.events
    → w ≡ record u { events = take (length u.events - 1) u.events } → more ≡ now ++ undone_of u (length u.events - 1)
    → IsShortened t w old more len
IsShortened-more t u w old now more len h some is adds =
    let n : ℕ = length u.events - 1 in
    let count : length w.events ≡ n = ap (λ (x : History). length x.events) is ∙ length-take-le n u.events (omega arith) in
    let shorter : w ≡ record t { events = take n t.events } =
    is ∙ (ap (λ (x : History). record x { events = take n x.events }) h.same
    ∙ ap (λ (events : List Event). record t { events = events }) (take-take n (length u.events) t.events (omega arith))) in
    let both : undone_of t (length u.events) ++ undone_of u n ≡ undone_of t n =
    ap (λ (x : History). undone_of t (length u.events) ++ undone_of x n) h.same
    ∙ undone-take t.opening.net t.opening.node t.opening.state t.events n (length u.events) (omega arith) h.within in
    record {
      same = shorter ∙ ap (λ k. record t { events = take k t.events }) (sym count);
      within = (let k = h.within in omega (arith, count));
      above = (let k = h.above in omega (arith, count));
      sends = adds ∙ (ap (λ xs. xs ++ undone_of u n) h.sends
          ∙ (append_assoc old (undone_of t (length u.events)) (undone_of u n)
          ∙ (ap (λ xs. old ++ xs) both ∙ ap (λ k. old ++ undone_of t k) (sym count))));
    }

left-is : (t u : History) (old now : List Event) (len : ℕ) → IsShortened t u old now len → length u.events ≤ len
    → length u.events ≡ min len (length t.events)
left-is t u old now len h all = let a = h.above in let b = h.within in omega arith

-- where no more than len remain
pub shortened-sends : (t u : History) (old now : List Event) (len : ℕ) → IsShortened t u old now len → length u.events ≤ len
    → now ≡ old ++ undone_of t len
shortened-sends t u old now len h all =
    let L : List (List Event) = sends_of t.opening.net t.opening.node t.opening.state t.events in
    let long : length L ≡ length t.events = length-sends_of t.opening.net t.opening.node t.opening.state t.events in
    let rest : drop (min len (length t.events)) L ≡ drop len L = subst (λ k. drop (min len k) L ≡ drop len L) long (drop_min len L) in
    h.sends ∙ (ap (λ k. old ++ undone_of t k) (left-is t u old now len h all)
    ∙ ap (λ (xs : List (List Event)). old ++ flat_map (λ sends. sends) (reverse xs)) rest)
