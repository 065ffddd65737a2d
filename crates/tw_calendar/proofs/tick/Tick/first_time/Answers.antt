use Rattle.std.proofs.Common.{◌≡◌, ◌<◌, ℕ, List, [], ◌∷◌, length, refl, ap, sym, subst, ◌∙◌, arith}
use Rattle.tw_event.specs.declared.event.Event.{Event}
use Rattle.tw_ordered.specs.Times.{first_time, never}
use Rattle.tw_calendar.specs.Update.{events_at}
use Rattle.tw_calendar.specs.declared.update.Update.{Update}
use Rattle.tw_calendar.proofs.tick.Tick.first_time.Goals as goal

told : (time : ℕ) (updates : List Update) → 0 < length (events_at time updates) → time ≡ first_time (events_at time updates)
told time [] l = absurd (omega arith)
told time (u ∷ us) l = refl

untold : (xs : List Event) → (0 < length xs → ⊥) → never ≡ first_time xs
untold [] h = refl
untold (x ∷ xs) h = absurd (h (omega arith))

pub returns-then-len-gt0 : goal.returns-then-len-gt0
returns-then-len-gt0 c =
    let a = c.self.inside in
    told a.time a.updates.items (subst (λ xs. 0 < length xs) (sym c.self.view_is) (omega (arith, c.len.ensures, c.if-len-gt0.true))) ∙ ap first_time c.self.view_is
