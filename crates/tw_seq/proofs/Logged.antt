-- A run with a log: what it has handled is the run's events.
use Rattle.std.proofs.Common.{◌≡◌, ◌∷◌, ◌++◌, [], reverse, ap, sym, ◌∙◌}
use Rattle.std.proofs.lemmas.List.{reverse-reverse}
use Rattle.tw_event.specs.declared.event.Event.{Event}
use Rattle.tw_seq.specs.Run.{IsNext, IsNextRun, Run}
use Rattle.tw_seq.proofs.Homes.{next_world}

-- the next run has handled the least pending event after the others
pub next_events : (a b : Run) (e : Event) → IsNext a e → IsNextRun a b → b.events ≡ a.events ++ e ∷ []
next_events a b e first next =
    let same = sym next.2 ∙ next_world a e first.0 a.stop first.1 first.2 in
    sym (reverse-reverse b.events) ∙ (ap (λ w. reverse w.log) same ∙ reverse-reverse (a.events ++ e ∷ []))
