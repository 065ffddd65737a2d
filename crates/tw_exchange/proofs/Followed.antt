-- Mail by worker, after a deposit.
use Rattle.std.proofs.Common.{arith, ℕ, zero, suc, ◌+◌, ◌≡◌, ◌<◌, ◌≤◌, true, false, cond, List, [], ◌∷◌, ◌++◌}
use Rattle.std.proofs.Common.{length, map, min, set, get_or, drop, refl, ap, sym, ◌∙◌, subst, inl, inr, append_assoc, append-nil}
use Rattle.std.proofs.lemmas.Bool.{cases_eq, eq-eqb, ne_eqb}
use Rattle.std.proofs.lemmas.List.{drop_more, ext_get_or, get_or-map, get_or-set_other, get_or-set_same, length-map, length-set, map-append, map-set}
use Rattle.std.proofs.lemmas.List.Sums.{fold-append}
use Rattle.std.specs.List.{fold}
use Rattle.std.specs.declared.vec.Vec.{Vec}
use Rattle.tw_exchange.specs.AnyBoard.{followed, is_for, message_times, sent_to}
use Rattle.tw_exchange.specs.Rows.{items, soonest_of}
use Rattle.tw_exchange.specs.declared.mail.TheConstants.{NEVER}
use Rattle.tw_exchange.proofs.Rooms.{items_at, items_set, length_items}
use Rattle.tw_process.specs.Parts.{Parts}
use Rattle.tw_sim.specs.declared.machine.Signed.{Signed}

module _ {E : Type 0} (parts : Parts E) where
  pub length_followed : (who : ℕ → ℕ) (w : ℕ) (out : List (Signed E)) (mail : List (List (Signed E))) → length (followed parts who w out mail) ≡ length mail
  length_followed who w out [] = refl
  length_followed who w out (m ∷ ms) = ap suc (length_followed who (suc w) out ms)

  -- the mail of one worker
  pub followed_at : (who : ℕ → ℕ) (j : ℕ) (out : List (Signed E)) (mail : List (List (Signed E))) (k : ℕ) → k < length mail
      → get_or (followed parts who j out mail) k [] ≡ get_or mail k [] ++ sent_to parts who (j + k) out
  followed_at who j out [] k h = absurd (omega arith)
  followed_at who j out (m ∷ ms) zero h = let e : j ≡ j + 0 = omega arith in ap (λ w. m ++ sent_to parts who w out) e
  followed_at who j out (m ∷ ms) (suc k) h =
      let e : suc j + k ≡ j + suc k = omega arith in
      followed_at who (suc j) out ms k (omega arith) ∙ ap (λ w. get_or ms k [] ++ sent_to parts who w out) e

  -- the same, counted from the first worker
  pub followed_of : (who : ℕ → ℕ) (out : List (Signed E)) (mail : List (List (Signed E))) (k : ℕ) → k < length mail → get_or (followed parts who 0 out mail) k [] ≡ get_or mail k [] ++ sent_to parts who k out
  followed_of who out mail k h = let e : 0 + k ≡ k = omega arith in followed_at who 0 out mail k h ∙ ap (λ w. get_or mail k [] ++ sent_to parts who w out) e

  -- nothing is deposited
  pub followed_nil : (who : ℕ → ℕ) (w : ℕ) (mail : List (List (Signed E))) → followed parts who w [] mail ≡ mail
  followed_nil who w [] = refl
  followed_nil who w (m ∷ ms) = λ i. append-nil m i ∷ followed_nil who (suc w) ms i

  -- what a deposit has for a worker, with one more message before it
  pub sent_here : (who : ℕ → ℕ) (w : ℕ) (x : Signed E) (out : List (Signed E)) → who (parts.dst x.event) ≡ w → sent_to parts who w (x ∷ out) ≡ x ∷ sent_to parts who w out
  sent_here who w x out e = ap (λ b. cond b (x ∷ sent_to parts who w out) (sent_to parts who w out)) (eq-eqb (who (parts.dst x.event)) w e)

  pub sent_elsewhere : (who : ℕ → ℕ) (w : ℕ) (x : Signed E) (out : List (Signed E)) → (who (parts.dst x.event) ≡ w → ⊥) → sent_to parts who w (x ∷ out) ≡ sent_to parts who w out
  sent_elsewhere who w x out ne = ap (λ b. cond b (x ∷ sent_to parts who w out) (sent_to parts who w out)) (ne_eqb (who (parts.dst x.event)) w ne)

  -- a message goes behind its worker's mail
  pub followed_more : (who : ℕ → ℕ) (x : Signed E) (out : List (Signed E)) (mail : List (List (Signed E))) → who (parts.dst x.event) < length mail
      → followed parts who 0 (x ∷ out) mail ≡ followed parts who 0 out (set mail (who (parts.dst x.event)) (get_or mail (who (parts.dst x.event)) [] ++ x ∷ []))
  followed_more who x out mail h =
      let o = who (parts.dst x.event) in
      let more = set mail o (get_or mail o [] ++ x ∷ []) in
      let long : length more ≡ length mail = length-set mail o (get_or mail o [] ++ x ∷ []) in
      ext_get_or [] (followed parts who 0 (x ∷ out) mail) (followed parts who 0 out more) (length_followed who 0 (x ∷ out) mail ∙ (sym long ∙ sym (length_followed who 0 out more))) at
    where
      at : (k : ℕ) → k < length (followed parts who 0 (x ∷ out) mail)
          → get_or (followed parts who 0 (x ∷ out) mail) k [] ≡ get_or (followed parts who 0 out (set mail (who (parts.dst x.event)) (get_or mail (who (parts.dst x.event)) [] ++ x ∷ []))) k []
      at k below =
          let o = who (parts.dst x.event) in
          let more = set mail o (get_or mail o [] ++ x ∷ []) in
          let long : length more ≡ length mail = length-set mail o (get_or mail o [] ++ x ∷ []) in
          let same = length_followed who 0 (x ∷ out) mail in
          let left : get_or (followed parts who 0 (x ∷ out) mail) k [] ≡ get_or mail k [] ++ sent_to parts who k (x ∷ out) = followed_of who (x ∷ out) mail k (omega arith) in
          let right : get_or (followed parts who 0 out more) k [] ≡ get_or more k [] ++ sent_to parts who k out = followed_of who out more k (omega arith) in
          left ∙ (elim (cases_eq o k) [
            | inl e ↦ (ap (λ xs. get_or mail k [] ++ xs) (sent_here who k x out e) ∙ (sym (append_assoc (get_or mail k []) (x ∷ []) (sent_to parts who k out))
                ∙ ap (λ xs. xs ++ sent_to parts who k out) (sym (subst (λ w. get_or more w [] ≡ get_or mail w [] ++ x ∷ []) e (get_or-set_same mail o (get_or mail o [] ++ x ∷ []) [] h)))))
            | inr ne ↦ (ap (λ xs. get_or mail k [] ++ xs) (sent_elsewhere who k x out ne)
                ∙ ap (λ xs. xs ++ sent_to parts who k out) (sym (get_or-set_other mail o k (get_or mail o [] ++ x ∷ []) [] (λ e. ne (sym e)))))
          ] ∙ sym right)

  -- ---- message by message: x is the message at place i

  -- no worker is sent more than all
  pub sent_few : (who : ℕ → ℕ) (w : ℕ) (out : List (Signed E)) → length (sent_to parts who w out) ≤ length out
  sent_few who w [] = omega arith
  sent_few who w (x ∷ out) =
      let h = sent_few who w out in
      elim (is_for parts who w x) as (λ b. length (cond b (x ∷ sent_to parts who w out) (sent_to parts who w out)) ≤ suc (length out)) [ true ↦ omega arith | false ↦ omega arith ]

module _ {E : Type 0} (parts : Parts E) {Z : Type 0} where
  -- a message goes behind the mail in its worker's place
  pub pushed : (who : ℕ → ℕ) (mail : List (Vec (Signed E) Z)) (out : List (Signed E)) (i o : ℕ) (d : Signed E) (v place : Vec (Signed E) Z)
      → o ≡ who (parts.dst (get_or out i d).event) → i < length out → o < length mail → v.items ≡ (get_or mail o place).items ++ get_or out i d ∷ []
      → followed parts who 0 (drop (i + 1) out) (items (set mail o v)) ≡ followed parts who 0 (drop i out) (items mail)
  pushed who mail out i o d v place e h below put =
      let x = get_or out i d in
      let rest = drop (i + 1) out in
      let mine : who (parts.dst x.event) ≡ o = sym e in
      let long = length_items mail in
      let longer : v.items ≡ get_or (items mail) o [] ++ x ∷ [] = put ∙ ap (λ xs. xs ++ x ∷ []) (sym (items_at mail o place below)) in
      let within : who (parts.dst x.event) < length (items mail) = omega arith in
      ap (followed parts who 0 rest) (items_set mail o v (get_or (items mail) o [] ++ x ∷ []) longer)
      ∙ (sym (followed_more parts who x rest (items mail) within ∙ ap (λ k. followed parts who 0 rest (set (items mail) k (get_or (items mail) k [] ++ x ∷ []))) mine)
      ∙ ap (λ xs. followed parts who 0 xs (items mail)) (sym (drop_more out i d h)))

  -- a place of the mail is one of the row beside it
  pub long_row : (soonest : List ℕ) (mail : List (Vec (Signed E) Z)) (o : ℕ) → soonest ≡ map (soonest_of parts) (items mail) → o < length mail → o < length soonest
  long_row soonest mail o row below =
      let many = length_items mail in
      let long = length-map (items mail) (soonest_of parts) in
      let same = ap length row in
      omega arith

  -- and its time lowers the least one of that mail
  pub soonest_pushed : (soonest : List ℕ) (mail : List (Vec (Signed E) Z)) (o t : ℕ) (x : Signed E) (v place : Vec (Signed E) Z) → soonest ≡ map (soonest_of parts) (items mail)
      → o < length mail → v.items ≡ (get_or mail o place).items ++ x ∷ [] → t ≡ min (get_or soonest o 0) (parts.time x.event) → set soonest o t ≡ map (soonest_of parts) (items (set mail o v))
  soonest_pushed soonest mail o t x v place row below put least =
      let ys = (get_or mail o place).items in
      let long = length_items mail in
      let was : get_or soonest o 0 ≡ soonest_of parts ys =
      (ap (λ r. get_or r o 0) row ∙ (get_or-map (soonest_of parts) (items mail) o [] 0 (omega arith) ∙ ap (soonest_of parts) (items_at mail o place below))) in
      let is : soonest_of parts (ys ++ x ∷ []) ≡ min (soonest_of parts ys) (parts.time x.event) =
      (ap (fold min NEVER) (map-append (λ y. parts.time y.event) ys (x ∷ [])) ∙ fold-append min NEVER (message_times parts ys) (parts.time x.event ∷ [])) in
      let now : t ≡ soonest_of parts (ys ++ x ∷ []) = least ∙ (ap (λ k. min k (parts.time x.event)) was ∙ sym is) in
      (λ j. set (row j) o (now j)) ∙ (sym (map-set (soonest_of parts) (items mail) o (ys ++ x ∷ [])) ∙ ap (map (soonest_of parts)) (sym (items_set mail o v (ys ++ x ∷ []) put)))
