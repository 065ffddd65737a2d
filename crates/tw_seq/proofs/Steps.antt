-- What handling the least pending event does to a run.
use Rattle.std.proofs.Common.{◌≡◌, ℕ, ◌+◌, ◌<◌, List, [], ◌∷◌, ◌++◌, reverse, refl, ap, sym, ◌∙◌, arith}
use Rattle.std.proofs.lemmas.Bool.{eq-eqb, ne_eqb}
use Rattle.std.proofs.lemmas.List.{reverse-append}
use Rattle.tw_sim.specs.Simulation.{Simulation, IsLawful, only, state}
use Rattle.tw_sim.specs.Seq.{World, begin, finished, insert_all, seq, turns}
use Rattle.tw_sim.proofs.Seq.{IsOver, turn_soon, turns-add, finished_turns, finished_over}

pub reverse-push : {A : Type 0} (xs : List A) (x : A) → reverse (xs ++ x ∷ []) ≡ x ∷ reverse xs
reverse-push xs x = reverse-append xs (x ∷ [])

module _ {S E : Type 0} (m : Simulation S E) where
  -- the world after handling x, with the events the first one first
  pub pushed : (t : ℕ) (events : List E) (x : E) (later : List E) → m.time x < t
      → turns m 1 t (record { log = reverse events; rest = x ∷ later })
      ≡ record { log = reverse (events ++ x ∷ []); rest = insert_all m (m.sends (state m (m.dst x) (only m (m.dst x) (reverse events))) x) later }
  pushed t events x later h = rw reverse-push (turn_soon m t (reverse events) x later h)

  -- a router's state after one more event
  pub state_own : (events : List E) (x : E) → state m (m.dst x) (only m (m.dst x) (reverse (events ++ x ∷ []))) ≡ m.after (state m (m.dst x) (only m (m.dst x) (reverse events))) x
  state_own events x = rw (reverse-push, eq-eqb (m.dst x) (m.dst x) refl)

  pub state_other : (events : List E) (x : E) (r : ℕ) → (m.dst x ≡ r → ⊥) → state m r (only m r (reverse (events ++ x ∷ []))) ≡ state m r (only m r (reverse events))
  state_other events x r h = rw (reverse-push, ne_eqb (m.dst x) r h)

  -- a run goes on from its beginning
  pub goes_on : (n k t : ℕ) (v w : World E) → turns m n t (begin m) ≡ v → turns m k t v ≡ w → turns m (n + k) t (begin m) ≡ w
  goes_on n k t v w a b = sym (turns-add m n k t (begin m)) ∙ (ap (λ u. turns m k t u) a ∙ b)

  -- a run that has begun and is over is the whole run
  pub is_whole : IsLawful m → (n t : ℕ) (w : World E) → turns m n t (begin m) ≡ w → IsOver m t w.rest → w ≡ seq m t
  is_whole law n t w a o =
      sym (finished_over m law t w o) ∙ (ap (finished m t) (sym a) ∙ finished_turns m law n t t (begin m) (omega arith))
