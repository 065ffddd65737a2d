-- Parts that add up make a good state.
use Rattle.std.proofs.Common.{◌≡◌, ℕ, ◌+◌, ◌<◌, ◌≤◌, true, false, List, [], ◌∷◌, Some, flat_map, refl, ap, sym, ◌∙◌, subst, inl, inr, arith, nat_lt}
use Rattle.std.proofs.lemmas.Bool.{cases_Bool, cases_lt, ltb-true, ltb-false}
use Rattle.std.specs.List.{AllByRecursion}
use Rattle.std.specs.Option.{option_map_or}
use Rattle.tw_core.proofs.Counts.{antimessages-append, messages-append}
use Rattle.tw_core.proofs.Owners.{from_owner, owned, owner_is}
use Rattle.tw_core.proofs.Sums.{all_both, all_map, found_zero, some_of, through, total_add, total_zero}
use Rattle.tw_core.specs.Good.{IsGood, times_taken_back, times_there}
use Rattle.tw_core.specs.Machine.{Core, antimessages, messages, times_handled, times_loose}
use Rattle.tw_core.specs.Parts.{AddUp, IsPart, Part, Shared, assembled, owning_part, times_wanted, total}
use Rattle.tw_sim.proofs.Counts.{in_head, none, times-append}
use Rattle.tw_sim.specs.declared.machine.Signed.{Signed}
use Rattle.tw_sim.specs.Simulation.{Simulation, IsFalling, IsLawful, sent, times}

module _ {S E : Type 0} (m : Simulation S E) where
  pub times-flat_map : (e : E) (g : Part E → List E) (parts : List (Part E)) → times m e (flat_map g parts) ≡ total (λ p. times m e (g p)) parts
  times-flat_map e g [] = refl
  times-flat_map e g (p ∷ parts) = times-append m e (g p) (flat_map g parts) ∙ ap (λ n. times m e (g p) + n) (times-flat_map e g parts)

  pub messages-flat_map : (e : E) (g : Part E → List (Signed E)) (parts : List (Part E)) → messages m e (flat_map g parts) ≡ total (λ p. messages m e (g p)) parts
  messages-flat_map e g [] = refl
  messages-flat_map e g (p ∷ parts) = messages-append m e (g p) (flat_map g parts) ∙ ap (λ n. messages m e (g p) + n) (messages-flat_map e g parts)

  pub antimessages-flat_map : (e : E) (g : Part E → List (Signed E)) (parts : List (Part E)) → antimessages m e (flat_map g parts) ≡ total (λ p. antimessages m e (g p)) parts
  antimessages-flat_map e g [] = refl
  antimessages-flat_map e g (p ∷ parts) = antimessages-append m e (g p) (flat_map g parts) ∙ ap (λ n. antimessages m e (g p) + n) (antimessages-flat_map e g parts)

  -- one part that owns every router is the whole
  pub whole_adds_up : (C : Core E) → IsGood m C
      → AddUp m (record { mail = C.flight; bound = C.bound; stop = C.stop }) (record { owns = λ r. true; core = record C { flight = [] } } ∷ [])
  whole_adds_up C good = grind arith

  module _ (law : IsLawful m) where
    -- who sent anything has handled something
    pub sent_some : (r : ℕ) (xs : List E) (e : E) → 0 < times m e (sent m r xs) → (y : E) × (0 < times m y xs)
    sent_some r [] e h = absurd (omega arith)
    sent_some r (x ∷ xs) e h = (x, in_head m law x xs)

    module _ (shared : Shared E) (parts : List (Part E)) (sums : AddUp m shared parts) where
      abbrev A : Core E
      A = assembled shared parts

      -- what each part keeps by itself, told of all
      each : (Q : Part E → Type 0) → ((p : Part E) → IsPart m shared p → Q p) → AllByRecursion Q parts
      each Q f = all_map (IsPart m shared) Q f parts sums.each

      -- only the owner of r, a router that is there, has any
      abbrev IsOwners : ℕ → (Part E → ℕ) → Part E → Type 0
      IsOwners r f p = 0 < f p → (p.owns r ≡ true) × (r < m.routers)

      -- a router for which something was handled is there
      there : (p : Part E) (r : ℕ) (y : E) → IsPart m shared p → 0 < times m y (p.core.history r) → (p.owns r ≡ true) × (r < m.routers)
      there p r y is h = grind arith

      -- ---- sums

      owned_total : (r : ℕ) (f : Part E → ℕ) → AllByRecursion (IsOwners r f) parts → total f parts ≡ option_map_or f (owning_part r parts) 0
      owned_total r f only = grind (arith, cases_lt, owned, all_map, none, total_zero, found_zero)

      handled_total : (e : E) → total (λ p. times_handled m p.core e) parts ≡ times_handled m A e
      handled_total e =
          let handled : Part E → ℕ = λ p. times_handled m p.core e in
          owned_total (m.dst e) handled (each (IsOwners (m.dst e) handled) (λ p is h. there p (m.dst e) e is h))
          ∙ sym (through (times m e) (λ p. p.core.history (m.dst e)) (owning_part (m.dst e) parts) [])

      sent_total : (e : E) → total (λ p. times m e (sent m (m.src e) (p.core.history (m.src e)))) parts ≡ times m e (sent m (m.src e) (A.history (m.src e)))
      sent_total e =
          let asked : Part E → ℕ = λ p. times m e (sent m (m.src e) (p.core.history (m.src e))) in
          owned_total (m.src e) asked
          (each (IsOwners (m.src e) asked) (λ p is h. let some = sent_some (m.src e) (p.core.history (m.src e)) e h in there p (m.src e) some.0 is some.1))
          ∙ sym (through (λ xs. times m e (sent m (m.src e) xs)) (λ p. p.core.history (m.src e)) (owning_part (m.src e) parts) [])

      pending_total : (e : E) → times m e A.pending ≡ total (λ p. times m e p.core.pending) parts
      pending_total e = times-flat_map e (λ p. p.core.pending) parts

      kept_total : (e : E) → times m e A.kept ≡ total (λ p. times m e p.core.kept) parts
      kept_total e = times-flat_map e (λ p. p.core.kept) parts

      held_total : (e : E) → times m e A.held ≡ total (λ p. times m e p.core.held) parts
      held_total e = times-flat_map e (λ p. p.core.held) parts

      messages_total : (e : E) → messages m e A.flight ≡ messages m e shared.mail + total (λ p. messages m e p.core.flight) parts
      messages_total e =
          messages-append m e shared.mail (flat_map (λ p. p.core.flight) parts) ∙ ap (λ n. messages m e shared.mail + n) (messages-flat_map e (λ p. p.core.flight) parts)

      antimessages_total : (e : E) → antimessages m e A.flight ≡ antimessages m e shared.mail + total (λ p. antimessages m e p.core.flight) parts
      antimessages_total e = grind (arith, antimessages-append, flat_map, antimessages-flat_map)

      loose_total : (e : E) → times_loose m A e ≡ messages m e shared.mail + antimessages m e shared.mail + total (λ p. times_loose m p.core e) parts
      loose_total e =
          let pending = pending_total e in
          let kept = kept_total e in
          let plus = messages_total e in
          let minus = antimessages_total e in
          let held = held_total e in
          let all = total_add (λ (p : Part E). times m e p.core.pending + times m e p.core.kept + (messages m e p.core.flight + antimessages m e p.core.flight))
          (λ p. times m e p.core.held) parts in
          let first = total_add (λ (p : Part E). times m e p.core.pending + times m e p.core.kept) (λ p. messages m e p.core.flight + antimessages m e p.core.flight) parts in
          let second = total_add (λ (p : Part E). times m e p.core.pending) (λ p. times m e p.core.kept) parts in
          let third = total_add (λ (p : Part E). messages m e p.core.flight) (λ p. antimessages m e p.core.flight) parts in
          omega arith

      there_total : (e : E) → times_there m A e ≡ total (λ p. times_there m p.core e) parts + messages m e shared.mail
      there_total e =
          let handled = handled_total e in
          let pending = pending_total e in
          let plus = messages_total e in
          let first = total_add (λ (p : Part E). times_handled m p.core e) (λ p. times m e p.core.pending + messages m e p.core.flight) parts in
          let second = total_add (λ (p : Part E). times m e p.core.pending) (λ p. messages m e p.core.flight) parts in
          omega arith

      wanted_total : (e : E) → times_wanted m A e ≡ total (λ p. times_wanted m p.core e) parts + antimessages m e shared.mail
      wanted_total e =
          let asked = sent_total e in
          let kept = kept_total e in
          let minus = antimessages_total e in
          let held = held_total e in
          let first = total_add (λ (p : Part E). times m e (sent m (m.src e) (p.core.history (m.src e)))) (λ p. times_taken_back m p.core e) parts in
          let second = total_add (λ (p : Part E). times m e p.core.kept + antimessages m e p.core.flight) (λ p. times m e p.core.held) parts in
          let third = total_add (λ (p : Part E). times m e p.core.kept) (λ p. antimessages m e p.core.flight) parts in
          omega arith

      -- ---- where something is, some part has it

      part_some : (f : Part E → ℕ) (Q : Type 0) → ((p : Part E) → IsPart m shared p → 0 < f p → Q) → 0 < total f parts → Q
      part_some f Q g h = some_of f Q parts (each (λ p. 0 < f p → Q) g) h

      loose_some : (e : E) (Q : Type 0) → (0 < messages m e shared.mail + antimessages m e shared.mail → Q) → ((p : Part E) → IsPart m shared p → 0 < times_loose m p.core e → Q)
          → 0 < times_loose m A e → Q
      loose_some e Q of_mail of_part h =
          let all = loose_total e in
          elim (cases_Bool (nat_lt 0 (messages m e shared.mail + antimessages m e shared.mail))) [
            | inl b ↦ of_mail (ltb-true 0 (messages m e shared.mail + antimessages m e shared.mail) b)
            | inr b ↦ part_some (λ p. times_loose m p.core e) Q of_part (let no = ltb-false 0 (messages m e shared.mail + antimessages m e shared.mail) b in omega arith)
          ]

      -- what waits is with the owner of its receiver
      waiting_some : (e : E) (f : Part E → ℕ) (Q : Type 0) → m.dst e < m.routers → ((p : Part E) → 0 < f p → 0 < times m e p.core.pending + times m e p.core.kept)
          → ((p : Part E) → IsPart m shared p → owning_part (m.dst e) parts ≡ Some p → 0 < f p → Q) → 0 < total f parts → Q
      waiting_some e f Q l waits g h =
          some_of f Q parts
          (all_both (IsPart m shared) (λ p. p.owns (m.dst e) ≡ true → owning_part (m.dst e) parts ≡ Some p) (λ p. 0 < f p → Q)
          (λ p is found k. g p is (found (is.own.waiting e (waits p k))) k) parts sums.each (owner_is (m.dst e) parts (sums.once (m.dst e) l)))
          h

      -- and so is all that is pending for it
      pending_owner : (e : E) → m.dst e < m.routers → (p : Part E) → owning_part (m.dst e) parts ≡ Some p → times m e A.pending ≡ times m e p.core.pending
      pending_owner e l p found =
          let pending : Part E → ℕ = λ q. times m e q.core.pending in
          let waiting = each (IsOwners (m.dst e) pending) (λ q is h. (is.own.waiting e (omega arith), l)) in
          pending_total e ∙ (owned_total (m.dst e) pending waiting ∙ ap (λ o. option_map_or pending o 0) found)

      history_owner : (r : ℕ) (p : Part E) → owning_part r parts ≡ Some p → A.history r ≡ p.core.history r
      history_owner r p found = ap (λ o. option_map_or (λ q. q.core.history r) o []) found

      loose_suits : (e : E) → 0 < times_loose m A e → m.suits e ≡ true
      loose_suits e h = loose_some e (m.suits e ≡ true) (sums.suit e) (λ p is k. is.good.suit e (omega arith)) h

      -- ---- good

      history_of : (r : ℕ) (P : List E → Type 0) → P [] → ((p : Part E) → IsPart m shared p → P (p.core.history r)) → P (A.history r)
      history_of r P base f = from_owner r (λ C. C.history r) [] P base parts (each (λ p. P (p.core.history r)) f)

      -- the parts, put together, are good
      pub good_assembled : IsGood m A
      good_assembled = record {
        part = record {
          falling = λ r. history_of r (IsFalling m) tt (λ p is. is.good.falling r);
          home = λ r. history_of r (λ xs. (e : E) → 0 < times m e xs → m.dst e ≡ r) (λ e h. absurd (omega arith)) (λ p is. is.good.home r);
          soon = λ r. history_of r (λ xs. (e : E) → 0 < times m e xs → m.time e < shared.stop) (λ e h. absurd (omega arith)) (λ p is. is.good.soon r);
          late = λ e h. loose_some e (shared.bound ≤ m.time e) (sums.late e) (λ p is k. is.good.late e k) h;
          ahead = λ e x waits handled.
              let l = law.receiver e (loose_suits e (omega arith)) in
              waiting_some e (λ p. times m e p.core.pending) (m.before e x ≡ false) l (λ p k. omega arith)
              (λ p is found k. is.good.ahead e x k (subst (λ xs. 0 < times m x xs) (history_owner (m.dst e) p found) handled))
              (let all = pending_total e in omega arith);
          alone = λ e h.
              let l = law.receiver e (loose_suits e (omega arith)) in
              waiting_some e (λ p. times m e p.core.kept) ((times m e A.pending ≡ 0) × (times_handled m A e ≡ 0)) l (λ p k. omega arith)
              (λ p is found k. let old = is.good.alone e k in (pending_owner e l p found ∙ old.0, ap (times m e) (history_owner (m.dst e) p found) ∙ old.1))
              (let all = kept_total e in omega arith);
          suit = λ e h.
              elim (cases_Bool (nat_lt 0 (times_loose m A e))) [
                | inl b ↦ loose_suits e (ltb-true 0 (times_loose m A e) b)
                | inr b ↦ part_some (λ p. times_handled m p.core e) (m.suits e ≡ true) (λ p is k. is.good.suit e (omega arith))
                    (let no = ltb-false 0 (times_loose m A e) b in let all = handled_total e in omega arith)
              ];
        };
        balance = λ e. grind (arith, there_total, wanted_total);
        done = λ r. from_owner r (λ C. C.done r) 0 (λ n. n ≤ shared.bound) (omega arith) parts (each (λ p. p.core.done r ≤ shared.bound) (λ p is. is.done r));
        bound = sums.bound;
      }
