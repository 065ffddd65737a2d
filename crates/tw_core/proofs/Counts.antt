-- Signed counts: how often an event is in flight after an append or a removal; and how often it is held.
use Rattle.std.proofs.Common.{◌≡◌, ℕ, zero, suc, ◌+◌, ◌<◌, ◌≤◌, cond, List, [], ◌∷◌, ◌++◌, map, Some, slice_get, remove, refl, inl, inr, arith, nat_lt}
use Rattle.std.proofs.lemmas.Bool.{cases_Bool, ltb-false, ltb-true}
use Rattle.tw_core.specs.Machine.{antimessages, messages}
use Rattle.tw_core.specs.Steps.{antimessage, from, from_others, held_back, message, sent_back, still_held, take_out, to_send}
use Rattle.tw_sim.proofs.Counts.{none, one_self, take_out-none, times-insert_all, times-take_out, times-take_out-le}
use Rattle.tw_sim.specs.declared.machine.Cancel.{Cancel}
use Rattle.tw_sim.specs.declared.machine.Cancel.TheVariants.{Aggressive, Lazy}
use Rattle.tw_sim.specs.declared.machine.Signed.{Signed}
use Rattle.tw_sim.specs.Simulation.{Simulation, IsLawful, one, times}

module _ {S E : Type 0} (m : Simulation S E) where
  -- messages of two lists
  pub messages-append : (e : E) (xs ys : List (Signed E)) → messages m e (xs ++ ys) ≡ messages m e xs + messages m e ys
  messages-append e [] ys = omega arith
  messages-append e (x ∷ xs) ys = let h = messages-append e xs ys in omega arith

  -- and antimessages
  pub antimessages-append : (e : E) (xs ys : List (Signed E)) → antimessages m e (xs ++ ys) ≡ antimessages m e xs + antimessages m e ys
  antimessages-append e [] ys = omega arith
  antimessages-append e (x ∷ xs) ys = let h = antimessages-append e xs ys in omega arith

  -- what goes out as messages
  pub messages-message : (e : E) (xs : List E) → messages m e (map message xs) ≡ times m e xs
  messages-message e [] = refl
  messages-message e (x ∷ xs) = let h = messages-message e xs in omega arith

  pub antimessages-message : (e : E) (xs : List E) → antimessages m e (map message xs) ≡ 0
  antimessages-message e [] = refl
  antimessages-message e (x ∷ xs) = let h = antimessages-message e xs in omega arith

  -- and as antimessages
  pub messages-antimessage : (e : E) (xs : List E) → messages m e (map antimessage xs) ≡ 0
  messages-antimessage e [] = refl
  messages-antimessage e (x ∷ xs) = let h = messages-antimessage e xs in omega arith

  pub antimessages-antimessage : (e : E) (xs : List E) → antimessages m e (map antimessage xs) ≡ times m e xs
  antimessages-antimessage e [] = refl
  antimessages-antimessage e (x ∷ xs) = let h = antimessages-antimessage e xs in omega arith

  -- what an undone event had sent goes out as antimessages alone
  pub messages-sent_back : (e : E) (cancel : Cancel) (xs : List E) → messages m e (sent_back m cancel xs) ≡ 0
  messages-sent_back e Aggressive xs = messages-antimessage e xs
  messages-sent_back e Lazy xs = refl

  -- and either so or into what is held
  pub times-held_back : (e : E) (cancel : Cancel) (xs held : List E)
      → antimessages m e (sent_back m cancel xs) + times m e (held_back m cancel xs held) ≡ times m e xs + times m e held
  times-held_back e Aggressive xs held = let h = antimessages-antimessage e xs in omega arith
  times-held_back e Lazy xs held = let h = times-insert_all m e xs held in omega arith

  -- what is held still was held
  pub times-still_held : (e : E) (xs held : List E) → times m e (still_held m xs held) ≤ times m e held
  times-still_held e xs [] = omega arith
  times-still_held e [] (h ∷ held) = omega arith
  times-still_held e (x ∷ xs) (h ∷ held) = grind (arith, times-take_out-le, times-still_held e xs (take_out m x (h ∷ held)))

  -- a list is what a router sent and what others sent
  pub times-from : (e : E) (r : ℕ) (xs : List E) → times m e (from m r xs) + times m e (from_others m r xs) ≡ times m e xs
  times-from e r [] = refl
  times-from e r (x ∷ xs) = grind (arith, cases_Bool, times-from e r xs)

  -- one message leaves the flight
  pub messages-remove : (e : E) (xs : List (Signed E)) (k : ℕ) (x : Signed E) → slice_get xs k ≡ Some x
      → messages m e xs ≡ cond x.plus (one m e x.event) 0 + messages m e (remove xs k)
  messages-remove e [] k x h = cc
  messages-remove e (y ∷ xs) zero x h = grind arith
  messages-remove e (y ∷ xs) (suc k) x h = let more = messages-remove e xs k x h in omega arith

  pub antimessages-remove : (e : E) (xs : List (Signed E)) (k : ℕ) (x : Signed E) → slice_get xs k ≡ Some x
      → antimessages m e xs ≡ cond x.plus 0 (one m e x.event) + antimessages m e (remove xs k)
  antimessages-remove e [] k x h = cc
  antimessages-remove e (y ∷ xs) zero x h = grind arith
  antimessages-remove e (y ∷ xs) (suc k) x h = let more = antimessages-remove e xs k x h in omega arith

  -- a list in which nothing stands is empty
  pub none_there : IsLawful m → (xs : List E) → ((e : E) → times m e xs ≡ 0) → xs ≡ []
  none_there law [] h = refl
  none_there law (x ∷ xs) h = absurd (let k = h x in let self = one_self m law x in omega arith)

  module _ (law : IsLawful m) where
    -- what is sent goes out, or was held and is no more
    pub times-to_send : (e : E) (xs held : List E) → times m e (to_send m xs held) + times m e held ≡ times m e xs + times m e (still_held m xs held)
    times-to_send e xs [] = refl
    times-to_send e [] (h ∷ held) = refl
    times-to_send e (x ∷ xs) (h ∷ held) =
        elim (cases_Bool (nat_lt 0 (times m x (h ∷ held)))) [
          | inl b ↦ (
              let taken = times-take_out m law e x (h ∷ held) (ltb-true 0 (times m x (h ∷ held)) b) in
              let more = times-to_send e xs (take_out m x (h ∷ held)) in
              rw b (omega arith))
          | inr b ↦ grind (arith, none, ltb-false, take_out-none, times-to_send e xs (h ∷ held))
        ]

    -- a message in flight is counted there
    pub in_flight : (xs : List (Signed E)) (k : ℕ) (x : Signed E) → slice_get xs k ≡ Some x → 0 < messages m x.event xs + antimessages m x.event xs
    in_flight xs k x h =
        let self = one_self m law x.event in
        let plus = messages-remove x.event xs k x h in
        let minus = antimessages-remove x.event xs k x h in
        elim (cases_Bool x.plus) [
          | inl b ↦ (let one_more = rw b at plus in omega arith)
          | inr b ↦ (let one_more = rw b at minus in omega arith)
        ]
