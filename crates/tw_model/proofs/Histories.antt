-- The two forms of a router's history: the newest event first, as the sequential run has it, and the oldest first, as calls have it.
use Rattle.std.proofs.Common.{◌≡◌, ℕ, ◌==◌, Bool, List, [], ◌∷◌, ◌++◌, reverse, refl, sym, ap, ◌∙◌, inl, inr, append_assoc, append-nil}
use Rattle.std.specs.List.{filter}
use Rattle.std.proofs.lemmas.Bool.{cases_Bool, eqb-true}
use Rattle.std.proofs.lemmas.List.{reverse-append}
use Rattle.std.proofs.lemmas.List.Elements.{filter-append}
use Rattle.tw_event.specs.declared.event.Event.{Event}
use Rattle.tw_model.specs.Case.{Case, simulation}
use Rattle.tw_model.specs.Effect.{effect}
use Rattle.tw_model.specs.History.{state_after}
use Rattle.tw_model.specs.State.{opening}
use Rattle.tw_sim.specs.Simulation.{only, state}
use Rattle.tw_sim.proofs.Members.{In, in_filter}

-- handling events of one router, the oldest first, after older ones
pub onward : (case : Case) (v : ℕ) (events older : List Event) → ((e : Event) → In e events → e.dst ≡ v)
    → state (simulation case) v (reverse events ++ older) ≡ state_after case.net v (state (simulation case) v older) events
onward case v [] older home = refl
onward case v (e ∷ events) older home =
    ap (state (simulation case) v) (ap (λ xs. xs ++ older) (reverse-append (e ∷ []) events) ∙ append_assoc (reverse events) (e ∷ []) older)
    ∙ (onward case v events (e ∷ older) (λ y k. home y (inr k))
    ∙ ap (λ r. state_after case.net v (effect case.net r (state (simulation case) v older) e).state events) (home e (inl refl)))

pub filter-reverse : (p : Event → Bool) (xs : List Event) → filter p (reverse xs) ≡ reverse (filter p xs)
filter-reverse p [] = refl
filter-reverse p (x ∷ xs) =
    let split = ap (filter p) (reverse-append (x ∷ []) xs)
    ∙ (filter-append p (reverse xs) (x ∷ []) ∙ ap (λ ys. ys ++ filter p (x ∷ [])) (filter-reverse p xs)) in
    elim (cases_Bool (p x)) [
      | inl b ↦ split ∙ rw b (sym (reverse-append (x ∷ []) (filter p xs)))
      | inr b ↦ split ∙ rw b (append-nil (reverse (filter p xs)))
    ]

-- what a router knows after a run is what it knows after its own events, the oldest first
pub state_of_own : (case : Case) (v : ℕ) (events : List Event)
    → state (simulation case) v (only (simulation case) v (reverse events)) ≡ state_after case.net v (opening case.net v) (filter (λ e. e.dst == v) events)
state_of_own case v events =
    let own = filter (λ e. e.dst == v) events in
    ap (state (simulation case) v) (filter-reverse (λ e. e.dst == v) events ∙ sym (append-nil (reverse own)))
    ∙ onward case v own [] (λ e there. eqb-true e.dst v (in_filter (λ x. x.dst == v) e events there).0)
