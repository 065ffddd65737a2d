-- What is sent where equal messages are held, one event at a time.
use Rattle.std.proofs.Common.{◌≡◌, ℕ, ◌+◌, ◌<◌, ◌≤◌, true, List, [], ◌∷◌, ◌++◌, drop, get_or, length, map, nat_lt, refl, ap, sym, ◌∙◌, arith}
use Rattle.std.proofs.lemmas.Bool.{false_from_ne_true, lt-ltb, ltb-true}
use Rattle.std.proofs.lemmas.List.{append-nil, at_drop_all, at_drop_more}
use Rattle.tw_core.specs.Steps.{held_back, still_held, to_send}
use Rattle.tw_event.specs.declared.event.Event.{Event}
use Rattle.tw_event.specs.Order.{event_before, event_same}
use Rattle.tw_model.specs.Case.{Case, simulation}
use Rattle.tw_shard.specs.Timeline.{signed}
use Rattle.tw_ordered.proofs.Events.{event_law}
use Rattle.tw_ordered.proofs.Rows.{rising-take_out}
use Rattle.tw_sim.specs.declared.machine.Cancel.{Cancel}
use Rattle.tw_sim.specs.declared.machine.Cancel.TheVariants.{Aggressive, Lazy}
use Rattle.tw_sim.specs.declared.machine.Signed.{Signed}
use Rattle.tw_sim.specs.Ordered.{take_out, times}
use Rattle.tw_sim.specs.Rising.{IsRising}
use Rattle.tw_sim.proofs.Ordered.{rising-insert_all}
use Rattle.tw_shard.proofs.Arrivals.{not_there}

module _ (case : Case) where
  -- where nothing more is sent, nothing goes out, and what is held stays
  no_more_sent : (held : List Event) → to_send (simulation case) [] held ≡ []
  no_more_sent [] = refl
  no_more_sent (h ∷ held) = refl

  no_more_held : (held : List Event) → still_held (simulation case) [] held ≡ held
  no_more_held [] = refl
  no_more_held (h ∷ held) = refl

  -- a message that is held is there already
  sent_before : (e : Event) (events held : List Event) → 0 < times event_same e held
      → to_send (simulation case) (e ∷ events) held ≡ to_send (simulation case) events (take_out event_same e held)
  sent_before e events [] some = absurd (omega arith)
  sent_before e events (h ∷ held) some = rw (lt-ltb 0 (times event_same e (h ∷ held)) some) refl

  -- another one goes out
  sent_now : (e : Event) (events held : List Event) → (0 < times event_same e held → ⊥)
      → to_send (simulation case) (e ∷ events) held ≡ e ∷ to_send (simulation case) events (take_out event_same e held)
  sent_now e events [] none = refl
  sent_now e events (h ∷ held) none =
      rw (false_from_ne_true (nat_lt 0 (times event_same e (h ∷ held))) (λ some. none (ltb-true 0 (times event_same e (h ∷ held)) some)))
      (ap (λ l. e ∷ to_send (simulation case) events l) (sym (not_there e (h ∷ held) none)))

  -- and is held no more
  held_after : (e : Event) (events held : List Event)
      → still_held (simulation case) (e ∷ events) held ≡ still_held (simulation case) events (take_out event_same e held)
  held_after e events [] = refl
  held_after e events (h ∷ held) = refl

  -- what is held stays in order
  pub rising-still_held : (events held : List Event) → IsRising event_before event_same held
      → IsRising event_before event_same (still_held (simulation case) events held)
  rising-still_held events [] rising = tt
  rising-still_held [] (h ∷ held) rising = rising
  rising-still_held (e ∷ events) (h ∷ held) rising =
      rising-still_held events (take_out event_same e (h ∷ held)) (rising-take_out e (h ∷ held) rising)

  pub rising-held_back : (cancel : Cancel) (events held : List Event) → IsRising event_before event_same held
      → IsRising event_before event_same (held_back (simulation case) cancel events held)
  rising-held_back Aggressive events held rising = rising
  rising-held_back Lazy events held rising = rising-insert_all event_before event_same event_law events held rising

  -- ---- a walk over the events, of which number i comes next

  module _ (events held now : List Event) (i : ℕ) (d : Event) (more : i < length events) (taken : now ≡ take_out event_same (get_or events i d) held) where
    pub one_matched : 0 < times event_same (get_or events i d) held
        → to_send (simulation case) (drop (i + 1) events) now ≡ to_send (simulation case) (drop i events) held
    one_matched some =
        ap (to_send (simulation case) (drop (i + 1) events)) taken
        ∙ (sym (sent_before (get_or events i d) (drop (i + 1) events) held some)
        ∙ sym (at_drop_more (λ xs. to_send (simulation case) xs held) events i d more))

    pub one_sent : (0 < times event_same (get_or events i d) held → ⊥)
        → get_or events i d ∷ to_send (simulation case) (drop (i + 1) events) now ≡ to_send (simulation case) (drop i events) held
    one_sent none =
        ap (λ l. get_or events i d ∷ to_send (simulation case) (drop (i + 1) events) l) taken
        ∙ (sym (sent_now (get_or events i d) (drop (i + 1) events) held none)
        ∙ sym (at_drop_more (λ xs. to_send (simulation case) xs held) events i d more))

    pub one_held : still_held (simulation case) (drop (i + 1) events) now ≡ still_held (simulation case) (drop i events) held
    one_held =
        ap (still_held (simulation case) (drop (i + 1) events)) taken
        ∙ (sym (held_after (get_or events i d) (drop (i + 1) events) held)
        ∙ sym (at_drop_more (λ xs. still_held (simulation case) xs held) events i d more))

  -- at its end
  pub all_sent : (events held : List Event) (sent : List (Signed Event)) (i : ℕ) → length events ≤ i
      → sent ≡ sent ++ map (signed true) (to_send (simulation case) (drop i events) held)
  all_sent events held sent i past =
      sym (ap (λ l. sent ++ map (signed true) l) (at_drop_all (λ xs. to_send (simulation case) xs held) events i past ∙ no_more_sent held) ∙ append-nil sent)

  pub all_held : (events held : List Event) (i : ℕ) → length events ≤ i → held ≡ still_held (simulation case) (drop i events) held
  all_held events held i past = sym (at_drop_all (λ xs. still_held (simulation case) xs held) events i past ∙ no_more_held held)
