-- The newest event of a process: what holds of it, and what is left without it.
use Rattle.std.proofs.Common.{◌≡◌, ℕ, ◌-◌, ◌<◌, ◌↔◌, Bool, true, false, Ok, List, [], ◌∷◌, ◌++◌, Some, get_or, length, reverse, slice_get, refl, ap, sym, ◌∙◌, subst, arith}
use Rattle.std.proofs.lemmas.Bool.{false_from_ne_true}
use Rattle.std.proofs.lemmas.List.{get_or-reverse, length-reverse, reverse-append}
use Rattle.std.proofs.lemmas.Option.{slice_get-get_or}
use Rattle.std.specs.Result.{IsErrOf}
use Rattle.tw_process.specs.declared.refused.Refused.{Refused}
use Rattle.tw_process.specs.declared.refused.Refused.TheVariants.{CounterFull}
use Rattle.tw_engine.specs.Past.{AreNoted, Handled, IsPast, IsUndone, events_of}
use Rattle.tw_engine.specs.declared.past.Done.{Done}
use Rattle.tw_sim.specs.Simulation.{Simulation, state}

-- what stands last stands first in the other order
pub last_first : {X : Type 0} (xs : List X) → slice_get xs (length xs - 1) ≡ slice_get (reverse xs) 0
last_first [] = refl
last_first (x ∷ xs) =
    let ys = x ∷ xs in
    let long = length-reverse ys in
    let at : length ys - 1 ≡ length ys - 1 - 0 = omega arith in
    slice_get-get_or ys (length ys - 1) x (omega arith)
    ∙ (ap (λ k. Some (get_or ys k x)) at ∙ (ap Some (sym (get_or-reverse ys 0 x (omega arith))) ∙ sym (slice_get-get_or (reverse ys) 0 x (omega arith))))

pub turned : {X : Type 0} (all xs : List X) (x : X) → all ≡ xs ++ x ∷ [] → reverse all ≡ x ∷ reverse xs
turned all xs x is = ap reverse is ∙ reverse-append xs (x ∷ [])

-- a counter is not full where an event was handled
pub is_room : {T : Type 0} (t : T) (full : Bool) → (IsErrOf {E = Refused} (Ok t) CounterFull ↔ (full ≡ true)) → full ≡ false
is_room t full h = false_from_ne_true full (λ is. let k = h.1 is in cc)

module _ {S E N : Type 0} (m : Simulation S E) (latest : ℕ) (is_note : S → E → N → Type 0) (r : ℕ) (past : List E) where
  abbrev Noted : List (Done E N) → Type 0
  Noted = AreNoted m latest is_note r past

  -- what a process knew after these steps
  abbrev pub known_after : List (Done E N) → S
  known_after steps = state m r (events_of (reverse steps) ++ past)

  pub newest_own : (steps : List (Done E N)) (d : Done E N) → slice_get steps 0 ≡ Some d → Noted steps → (m.dst d.event ≡ r) × (m.suits d.event ≡ true)
  newest_own [] d at noted = cc
  newest_own (x ∷ steps) d at noted = let is : x ≡ d = cc in subst (λ y. (m.dst y.event ≡ r) × (m.suits y.event ≡ true)) is (noted.2, noted.3)

  -- the same steps, and the same knowledge
  pub past_kept : (knows back : S) (done : ℕ) (steps left : List (Done E N)) → left ≡ steps → back ≡ knows → IsPast m latest is_note r past knows done steps → IsPast m latest is_note r past back done left
  past_kept knows back done steps left is goes h = subst (IsPast m latest is_note r past back done) (sym is) (subst (λ k. IsPast m latest is_note r past k done steps) (sym goes) h)

  module _ (knows : S) (done : ℕ) (all steps : List (Done E N)) (d : Done E N) (is : all ≡ steps ++ d ∷ []) where
    known_turned : known_after all ≡ m.after (known_after steps) d.event
    known_turned = ap (λ l. state m r (events_of l ++ past)) (turned all steps d is)

    -- a step more
    pub past_more : (after : S) → IsPast m latest is_note r past knows done steps → after ≡ m.after knows d.event → is_note knows d.event d.note → m.full knows d.event ≡ false
        → m.dst d.event ≡ r → m.suits d.event ≡ true → m.time d.event < latest → IsPast m latest is_note r past after done all
    past_more after h goes note room home suits soon = record {
      here = h.here;
      known = goes ∙ (ap (λ k. m.after k d.event) h.known ∙ sym known_turned);
      noted = subst Noted (sym (turned all steps d is)) (subst (λ k. is_note k d.event d.note) h.known note, subst (λ k. m.full k d.event ≡ false) h.known room, home, suits, soon, h.noted);
      early = h.early;
    }

    -- and a step less
    module _ (h : IsPast m latest is_note r past knows done all) where
      pub newest_known : knows ≡ m.after (known_after steps) d.event
      newest_known = h.known ∙ known_turned

      pub newest_noted : Noted (d ∷ reverse steps)
      newest_noted = subst Noted (turned all steps d is) h.noted

      pub past_less : (before : S) → before ≡ known_after steps → IsPast m latest is_note r past before done steps
      past_less before goes = record { here = h.here; known = goes; noted = newest_noted.5; early = h.early }

-- an event that was handled and is undone leaves a process as it was
pub back_again : {S E M : Type 0} (m : Simulation S E) (o p q : Handled M E) (e : E) (before sends : List E) → p ≡ record o { ahead = e ∷ o.ahead } → q ≡ record p { ahead = q.ahead }
    → IsUndone m p.number p.past p.ahead q.ahead before sends → q ≡ o
back_again {E = E} {M = M} m o p q e before sends forth back u =
    let more : p.ahead ≡ e ∷ o.ahead = ap (λ (x : Handled M E). x.ahead) forth in
    let less : p.ahead ≡ u.newest ∷ q.ahead = u.was in
    let same : q.ahead ≡ o.ahead = cc in
    back ∙ (ap (λ (x : Handled M E). record x { ahead = q.ahead }) forth ∙ ap (λ l. record o { ahead = l }) same)
