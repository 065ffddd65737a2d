-- The least of all pending events is handled.
use Rattle.std.proofs.Common.{◌≡◌, ℕ, ◌<◌, ◌≤◌, Bool, true, false, Option, Some, None, Result, Ok, Err, nat_lt, refl, ap, sym, ◌∙◌, inl, inr, arith, if◌then◌else◌}
use Rattle.std.specs.Option.{option_map_or}
use Rattle.std.proofs.lemmas.Bool.{cases_Bool, le-ltb, lt-ltb, ltb-true}
use Rattle.tw_core.specs.declared.refusal.Refusal.{Refusal}
use Rattle.tw_core.specs.declared.refusal.Refusal.TheVariants.{NotMine, Nothing, Double, AheadFull, CounterFull}
use Rattle.tw_core.specs.Machine.{Core, count_ahead}
use Rattle.tw_core.specs.Steps.{after_handling, first_pending, handle, is_newest}
use Rattle.tw_event.specs.declared.event.Event.{Event}
use Rattle.tw_event.specs.Order.{event_before}
use Rattle.tw_model.specs.Case.{simulation}
use Rattle.tw_shard.specs.Shard.{Shard, handling, handling_least, owns, shard_core}
use Rattle.tw_sim.specs.Ordered.{least}
use Rattle.tw_sim.specs.Simulation.{state}

-- it is its router that handles
pub at_least : (stop : ℕ) (s : Shard) (e : Event) → least event_before s.pending ≡ Some e → e.time < stop → handling_least stop s ≡ handling stop s e.dst
at_least stop s e first soon =
    ap (λ o. option_map_or (λ (e : Event). if nat_lt e.time stop then handling stop s e.dst else Err Nothing) o (Err Nothing)) first
    ∙ ap (λ b. if b then handling stop s e.dst else Err Nothing) (lt-ltb e.time stop soon)

-- where there is none before the stop, there is nothing to handle
pub none_least : (stop : ℕ) (s : Shard) → ((e : Event) → least event_before s.pending ≡ Some e → stop ≤ e.time) → handling_least stop s ≡ Err Nothing
none_least stop s late = by (least event_before s.pending) late where
  by : (o : Option Event) → ((e : Event) → o ≡ Some e → stop ≤ e.time)
      → option_map_or (λ (e : Event). if nat_lt e.time stop then handling stop s e.dst else Err Nothing) o (Err Nothing) ≡ Err Nothing
  by None h = refl
  by (Some e) h = ap (λ b. if b then handling stop s e.dst else Err Nothing) (le-ltb e.time stop (h e refl))

-- where something else is told, one router tells it
pub one_told : (stop : ℕ) (s : Shard) (x : Result (Core Event) Refusal) → handling_least stop s ≡ x → (x ≡ Err Nothing → ⊥) → (r : ℕ) × (handling stop s r ≡ x)
one_told stop s x is some = by (least event_before s.pending) is where
  by : (o : Option Event) → option_map_or (λ (e : Event). if nat_lt e.time stop then handling stop s e.dst else Err Nothing) o (Err Nothing) ≡ x
      → (r : ℕ) × (handling stop s r ≡ x)
  by None h = absurd (some (sym h))
  by (Some e) h =
      elim (cases_Bool (nat_lt e.time stop)) [
        | inl soon ↦ (e.dst, sym (ap (λ b. if b then handling stop s e.dst else Err Nothing) soon) ∙ h)
        | inr late ↦ absurd (some (sym h ∙ ap (λ b. if b then handling stop s e.dst else Err Nothing) late))
      ]

-- a router of others handles nothing
pub not_own : (stop : ℕ) (s : Shard) (r : ℕ) → owns s r ≡ false → handling stop s r ≡ Err NotMine
not_own stop s r other =
    let m = simulation s.terms.case in
    ap (λ b. if b then handle m (shard_core stop s) r (first_pending m (shard_core stop s) r) else Err NotMine) other

-- what is refused to a stop is refused to each later one, but for what is not before the stop
module _ (limit stop : ℕ) (s : Shard) (r : ℕ) (f : Refusal) (later : limit ≤ stop) (some : f ≡ Nothing → ⊥) where
  -- why it is refused does not say what it would lead to
  whatever : (double room full : Bool) (C D : Core Event)
      → (if double then Err Double else (if room then (if full then Err CounterFull else Ok C) else Err AheadFull)) ≡ Err f
      → (if double then Err Double else (if room then (if full then Err CounterFull else Ok D) else Err AheadFull)) ≡ Err f
  whatever true room full C D h = h
  whatever false false full C D h = h
  whatever false true true C D h = h
  whatever false true false C D h = absurd (cc h)

  -- what handling e leads to, where it is before the stop
  abbrev opened : ℕ → Event → Result (Core Event) Refusal
  opened time e =
      let m = simulation s.terms.case in
      let C = shard_core time s in
      if is_newest m e (C.history r) then Err Double
      else (if nat_lt (count_ahead C r) (C.room r)
      then (if m.full (state m r (C.history r)) e then Err CounterFull
      else Ok (after_handling m C r e))
      else Err AheadFull)

  handled_later : (o : Option Event) → handle (simulation s.terms.case) (shard_core limit s) r o ≡ Err f → handle (simulation s.terms.case) (shard_core stop s) r o ≡ Err f
  handled_later None h = h
  handled_later (Some e) h =
      let m = simulation s.terms.case in
      let C = shard_core limit s in
      elim (cases_Bool (nat_lt e.time limit)) [
        | inl soon ↦
            let early = ltb-true e.time limit soon in
            ap (λ b. if b then opened stop e else Err Nothing) (lt-ltb e.time stop (omega arith))
            ∙ whatever (is_newest m e (C.history r)) (nat_lt (count_ahead C r) (C.room r)) (m.full (state m r (C.history r)) e)
            (after_handling m C r e) (after_handling m (shard_core stop s) r e)
            (sym (ap (λ b. if b then opened limit e else Err Nothing) soon) ∙ h)
        | inr late ↦
            let none : ◌≡◌ {A = Result (Core Event) Refusal} (Err Nothing) (Err f) = sym (ap (λ b. if b then opened limit e else Err Nothing) late) ∙ h in
            let same : Nothing ≡ f = cc none in
            absurd (some (sym same))
      ]

  pub refused_later : handling limit s r ≡ Err f → handling stop s r ≡ Err f
  refused_later h =
      let m = simulation s.terms.case in
      elim (cases_Bool (owns s r)) [
        | inl own ↦
            let first = first_pending m (shard_core limit s) r in
            ap (λ b. if b then handle m (shard_core stop s) r first else Err NotMine) own
            ∙ handled_later first (sym (ap (λ b. if b then handle m (shard_core limit s) r first else Err NotMine) own) ∙ h)
        | inr other ↦ not_own stop s r other ∙ (sym (not_own limit s r other) ∙ h)
      ]
