-- What a message that comes leaves, once the process is rolled back.
use Rattle.std.proofs.Common.{◌≡◌, ℕ, ◌<◌, ◌≤◌, ◌==◌, Bool, true, false, not, List, [], ◌∷◌, Result, Ok, Err, nat_lt, if◌then◌else◌, refl, ap, sym, ◌∙◌, subst, inl, inr, arith}
use Rattle.std.specs.List.{AllByRecursion}
use Rattle.std.specs.Prelude.{OnErr}
use Rattle.std.proofs.lemmas.Bool.{cases_Bool, cond-true, eq-eqb, false_from_ne_true, lt-ltb, ltb-false, ltb-true}
use Rattle.tw_core.specs.Machine.{Core}
use Rattle.tw_core.specs.Steps.{IsRolledBack, after_antimessage, after_message, after_undoing_while, take_out, with_pending, without_from, without_later, without_pending}
use Rattle.tw_engine.specs.Process.{IsSameProcess, Logical, history, process_core, rolls}
use Rattle.tw_engine.specs.declared.reach.Reach.{Reach}
use Rattle.tw_engine.specs.declared.reach.Reach.TheVariants.{From, Later}
use Rattle.tw_sim.proofs.Counts.{times-append}
use Rattle.tw_sim.specs.Ordered.{take_out as taken_out}
use Rattle.tw_sim.specs.Seq.{insert}
use Rattle.tw_sim.specs.Simulation.{Simulation, IsLawful, times}

-- what holds in any case holds at an error
pub on_err : {A E : Type 0} {P : Type 0} (r : Result A E) → P → OnErr r P
on_err (Ok a) p = tt
on_err (Err e) p = p

-- what holds of each holds of those that are left
pub all-take_out : {E : Type 0} (P : E → Type 0) (same : E → E → Bool) (e : E) (xs : List E) → AllByRecursion P xs → AllByRecursion P (taken_out same e xs)
all-take_out P same e [] h = tt
all-take_out P same e (x ∷ xs) h =
    elim (cases_Bool (same e x)) [
      | inl b ↦ rw b h.1
      | inr b ↦ rw b (h.0, all-take_out P same e xs h.1)
    ]

module _ {S E M : Type 0} (m : Simulation S E) (o : Logical M E) (e : E) (home : m.dst e ≡ o.number) (stop : ℕ) where
  abbrev C : Core E
  C = process_core stop o

  -- the machine sees the receiver's history
  here : C.history (m.dst e) ≡ history o
  here = cond-true (m.dst e == o.number) (history o) [] (eq-eqb (m.dst e) o.number home)

  -- undoing at the receiver
  undone_there : (test : E → Bool) → after_undoing_while m test (m.dst e) (C.history (m.dst e)) C ≡ after_undoing_while m test o.number (history o) C
  undone_there test = ap (λ h. after_undoing_while m test (m.dst e) h C) here ∙ ap (λ r. after_undoing_while m test r (history o) C) home

  -- a message whose antimessage is kept
  pub message_vanished : (u : Logical M E) → true ≡ nat_lt 0 (times m e o.kept) → u ≡ record o { kept = take_out m e o.kept } → process_core stop u ≡ after_message m C e
  message_vanished u some is =
      ap (process_core stop) is ∙ ap (λ b. if b then record C { kept = take_out m e o.kept } else with_pending m (without_later m C e) e) some

  -- a message whose antimessage is not kept
  pub message_came : (t u : Logical M E) → false ≡ nat_lt 0 (times m e o.kept) → process_core stop t ≡ after_undoing_while m (rolls m (Later e)) o.number (history o) C
      → u ≡ record t { pending = insert m e t.pending } → process_core stop u ≡ after_message m C e
  message_came t u none rolled put =
      let back : process_core stop t ≡ without_later m C e = rolled ∙ sym (undone_there (λ x. m.before e x)) in
      ap (process_core stop) put
      ∙ (ap (λ D. with_pending m D e) back
      ∙ ap (λ b. if b then record C { kept = take_out m e o.kept } else with_pending m (without_later m C e) e) none)

  -- an antimessage whose event is pending
  pub antimessage_vanished : (u : Logical M E) → true ≡ nat_lt 0 (times m e o.pending) → u ≡ record o { pending = take_out m e o.pending } → process_core stop u ≡ after_antimessage m C e
  antimessage_vanished u some is =
      ap (process_core stop) is
      ∙ ap (λ b. if b then without_pending m C e else (if nat_lt 0 (times m e (C.history (m.dst e)))
      then without_pending m (without_from m C e) e
      else record C { kept = insert m e C.kept })) some

  -- what an antimessage does whose event is not pending
  apart : (found : Bool) → false ≡ nat_lt 0 (times m e o.pending) → found ≡ nat_lt 0 (times m e (C.history (m.dst e)))
      → (if found then without_pending m (without_from m C e) e else record C { kept = insert m e C.kept }) ≡ after_antimessage m C e
  apart found none is =
      ap (λ b. if b then without_pending m (without_from m C e) e else record C { kept = insert m e C.kept }) is
      ∙ ap (λ b. if b then without_pending m C e else (if nat_lt 0 (times m e (C.history (m.dst e)))
      then without_pending m (without_from m C e) e
      else record C { kept = insert m e C.kept })) none

  -- an antimessage whose event is handled
  pub antimessage_came : (t u : Logical M E) → false ≡ nat_lt 0 (times m e o.pending) → true ≡ nat_lt 0 (times m e o.ahead)
      → process_core stop t ≡ after_undoing_while m (rolls m (From e)) o.number (history o) C → u ≡ record t { pending = take_out m e t.pending } → process_core stop u ≡ after_antimessage m C e
  antimessage_came t u none some rolled taken =
      let back : process_core stop t ≡ without_from m C e = rolled ∙ sym (undone_there (λ x. not (m.before x e))) in
      let there = ltb-true 0 (times m e o.ahead) (sym some) in
      let both = times-append m e o.ahead o.past in
      let found : true ≡ nat_lt 0 (times m e (C.history (m.dst e))) = sym (ap (λ xs. nat_lt 0 (times m e xs)) here ∙ lt-ltb 0 (times m e (history o)) (omega arith)) in
      ap (process_core stop) taken ∙ (ap (λ D. without_pending m D e) back ∙ apart true none found)

  module _ (law : IsLawful m) (late : o.bound ≤ m.time e) (early : AllByRecursion (λ p. m.time p < o.bound) o.past) where
    -- events of another time are others
    none_past : (past : List E) → AllByRecursion (λ p. m.time p < o.bound) past → times m e past ≡ 0
    none_past [] all = refl
    none_past (p ∷ past) all =
        elim (cases_Bool (m.same e p)) [
          | inl same ↦ let equal = ap m.time (law.same_is e p same) in let before = all.0 in absurd (omega arith)
          | inr other ↦ (let rest = none_past past all.1 in rw other (omega arith))
        ]

    -- an antimessage that came before its message
    pub antimessage_early : (u : Logical M E) → false ≡ nat_lt 0 (times m e o.pending) → false ≡ nat_lt 0 (times m e o.ahead) → u ≡ record o { kept = insert m e o.kept }
        → process_core stop u ≡ after_antimessage m C e
    antimessage_early u none unhandled put =
        let nothing = ltb-false 0 (times m e o.ahead) (sym unhandled) in
        let committed = none_past o.past early in
        let both = times-append m e o.ahead o.past in
        let absent : false ≡ nat_lt 0 (times m e (C.history (m.dst e))) =
        sym (ap (λ xs. nat_lt 0 (times m e xs)) here ∙ false_from_ne_true (nat_lt 0 (times m e (history o))) (λ some. let k = ltb-true 0 (times m e (history o)) some in omega arith)) in
        ap (process_core stop) put ∙ apart false none absent

-- ---- from call to call

module _ {S E M : Type 0} (sim : M → Simulation S E) (o s t u : Logical M E) (e : E) (is : s ≡ o) (home : (sim o.model).dst e ≡ o.number) where
  -- what was undone for e, and nothing since
  pub came_back : (reach : Reach E) → ((x : E) → rolls (sim o.model) reach x ≡ true → (sim o.model).before x e ≡ false) → u ≡ t
      → ((stop : ℕ) (x : E) → (sim s.model).dst x ≡ s.number → ((y : E) → rolls (sim s.model) reach y ≡ true → (sim s.model).before y x ≡ false)
      → IsRolledBack (sim s.model) x (process_core stop s) (process_core stop t))
      → (stop : ℕ) → IsRolledBack (sim o.model) e (process_core stop o) (process_core stop u)
  came_back reach late last undone stop =
      let from_o = subst (λ p. (x : E) → (sim p.model).dst x ≡ p.number → ((y : E) → rolls (sim p.model) reach y ≡ true → (sim p.model).before y x ≡ false)
      → IsRolledBack (sim p.model) x (process_core stop p) (process_core stop t)) is (undone stop) in
      subst (λ p. IsRolledBack (sim o.model) e (process_core stop o) (process_core stop p)) (sym last) (from_o e home late)

  rolled : (reach : Reach E) → ((stop : ℕ) → process_core stop t ≡ after_undoing_while (sim s.model) (rolls (sim s.model) reach) s.number (history s) (process_core stop s))
      → (stop : ℕ) → process_core stop t ≡ after_undoing_while (sim o.model) (rolls (sim o.model) reach) o.number (history o) (process_core stop o)
  rolled reach back stop = subst (λ p. process_core stop t ≡ after_undoing_while (sim p.model) (rolls (sim p.model) reach) p.number (history p) (process_core stop p)) is (back stop)

  pub then_waits : IsSameProcess s t → false ≡ nat_lt 0 (times (sim o.model) e o.kept)
      → ((stop : ℕ) → process_core stop t ≡ after_undoing_while (sim s.model) (rolls (sim s.model) (Later e)) s.number (history s) (process_core stop s))
      → u ≡ record t { pending = insert (sim t.model) e t.pending } → (stop : ℕ) → process_core stop u ≡ after_message (sim o.model) (process_core stop o) e
  then_waits share none back put stop =
      message_came (sim o.model) o e home stop t u none (rolled (Later e) back stop)
      (put ∙ ap (λ model. record t { pending = insert (sim model) e t.pending }) (share.model ∙ ap (λ p. p.model) is))

  pub then_vanishes : IsSameProcess s t → false ≡ nat_lt 0 (times (sim o.model) e o.pending) → true ≡ nat_lt 0 (times (sim s.model) e s.ahead)
      → ((stop : ℕ) → process_core stop t ≡ after_undoing_while (sim s.model) (rolls (sim s.model) (From e)) s.number (history s) (process_core stop s))
      → u ≡ record t { pending = take_out (sim t.model) e t.pending } → (stop : ℕ) → process_core stop u ≡ after_antimessage (sim o.model) (process_core stop o) e
  then_vanishes share none some back taken stop =
      antimessage_came (sim o.model) o e home stop t u none (subst (λ p. true ≡ nat_lt 0 (times (sim p.model) e p.ahead)) is some) (rolled (From e) back stop)
      (taken ∙ ap (λ model. record t { pending = take_out (sim model) e t.pending }) (share.model ∙ ap (λ p. p.model) is))

  pub then_keeps : IsLawful (sim o.model) → o.bound ≤ (sim o.model).time e → AllByRecursion (λ p. (sim o.model).time p < o.bound) o.past
      → false ≡ nat_lt 0 (times (sim o.model) e o.pending) → false ≡ nat_lt 0 (times (sim s.model) e s.ahead) → t ≡ record s { kept = insert (sim s.model) e s.kept }
      → (stop : ℕ) → process_core stop t ≡ after_antimessage (sim o.model) (process_core stop o) e
  then_keeps law late early none unhandled put stop =
      antimessage_early (sim o.model) o e home stop law late early t none (subst (λ p. false ≡ nat_lt 0 (times (sim p.model) e p.ahead)) is unhandled)
      (subst (λ p. t ≡ record p { kept = insert (sim p.model) e p.kept }) is put)

-- what an antimessage undoes is not before it
pub from_late : {S E : Type 0} (m : Simulation S E) (e x : E) → not (m.before x e) ≡ true → m.before x e ≡ false
from_late m e x h = elim (cases_Bool (m.before x e)) [ inl b ↦ absurd (let k = rw b at h in cc) | inr b ↦ b ]
