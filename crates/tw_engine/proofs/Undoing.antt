-- Undoing events one by one, and what a rollback leaves, as far as it has gone.
use Rattle.std.proofs.Common.{◌≡◌, ℕ, suc, ◌<◌, ◌≤◌, ◌==◌, Bool, true, false, not, List, [], ◌∷◌, ◌++◌, Option, Some, length, map, slice_get, refl, ap, sym, ◌∙◌, subst, inl, inr, arith}
use Rattle.std.proofs.lemmas.Bool.{cases_Bool, cond-true, eq-eqb, lt-ltb}
use Rattle.std.specs.List.{AllByRecursion}
use Rattle.tw_core.specs.Machine.{Core}
use Rattle.tw_core.specs.Steps.{IsRolledBack, after_undoing, after_undoing_while, antimessage}
use Rattle.tw_engine.specs.Past.{Handled, IsUndone}
use Rattle.tw_engine.specs.Process.{IsOneUndone, IsSameProcess, Logical, begins, has_newest, history, joined, process_core, rolls, undone_at}
use Rattle.tw_engine.specs.declared.reach.Reach.{Reach}
use Rattle.tw_engine.specs.declared.reach.Reach.TheVariants.{From, Later, Since}
use Rattle.tw_engine.proofs.Machine.{same_put}
use Rattle.tw_sim.proofs.Rising.{not_back}
use Rattle.tw_sim.specs.Seq.{insert}
use Rattle.tw_sim.specs.Simulation.{Simulation, IsLawful, state}
use Rattle.tw_sim.specs.declared.machine.Signed.{Signed}

-- where the newest event of a list passes a test, there is one
pub some_goes : {E : Type 0} (test : E → Bool) (xs : List E) (goes : Bool) → goes ≡ has_newest test xs → goes ≡ true → 0 < length xs
some_goes test [] goes is h = absurd (cc)
some_goes test (x ∷ xs) goes is h = omega arith

module _ {S E : Type 0} (m : Simulation S E) where
  -- ---- one event

  -- the machine of a process that has undone an event
  pub core_undone : {M : Type 0} (stop : ℕ) (p : Logical M E) (e : E) (older : List E)
      → process_core stop (undone_at m p e older) ≡ after_undoing m (process_core stop p) p.number e (older ++ p.past)
  core_undone stop p e older = ap (λ h. record (process_core stop (undone_at m p e older)) { history = h }) (sym (same_put [] p.number (history p) (older ++ p.past)))

  -- a process whose parts have undone an event
  pub undone_as_told : {M : Type 0} (p q : Handled M E) (pending left kept : List E) (flight reserved out : List (Signed E)) (bound : ℕ) (o : Option E) (event : E) (before sent read : List E)
      → IsUndone m p.number p.past p.ahead q.ahead before sent → q ≡ record p { ahead = q.ahead } → o ≡ Some event → o ≡ slice_get p.ahead 0 → left ≡ insert m event pending → before ≡ []
      → read ≡ sent → out ≡ reserved ++ map antimessage read → reserved ≡ flight → IsOneUndone m (joined p pending kept flight bound) (joined q left kept out bound)
  undone_as_told p q pending left kept flight reserved out bound o event before sent read u same some first put nothing reads away stay =
      let at : slice_get p.ahead 0 ≡ Some u.newest = ap (λ l. slice_get l 0) u.was in
      let is : event ≡ u.newest = cc in
      let sends = m.sends (state m p.number (q.ahead ++ p.past)) u.newest in
      let all : sent ≡ sends = u.sent ∙ ap (λ xs. xs ++ sends) nothing in
      let waits : left ≡ insert m u.newest pending = put ∙ ap (λ e. insert m e pending) is in
      let flies : out ≡ flight ++ map antimessage sends = away ∙ (ap (λ xs. xs ++ map antimessage read) stay ∙ ap (λ xs. flight ++ map antimessage xs) (reads ∙ all)) in (
        u.newest,
        q.ahead,
        u.was,
        λ i. record {
          model = (same i).model;
          number = (same i).number;
          ahead = (same i).ahead;
          past = (same i).past;
          pending = waits i;
          kept = kept;
          flight = flies i;
          done = (same i).done;
          bound = bound;
        },
      )

  -- fewer events are left
  pub fewer : {M : Type 0} (p q : Logical M E) → IsOneUndone m p q → length q.ahead < length p.ahead
  fewer p q h = let a = ap length h.2 in let b = ap (λ x. length x.ahead) h.3 in omega arith

  -- ---- as many as a rollback reaches

  module _ {M : Type 0} (reach : Reach E) where
    -- where a process has been rolled back as far as this
    pub record IsRolling (s t : Logical M E) : Type 0 where
      pub share : IsSameProcess s t
      pub kept : t.kept ≡ s.kept
      -- what was undone
      pub undone : (stop : ℕ) (x : E) → m.dst x ≡ s.number → ((e : E) → rolls m reach e ≡ true → m.before e x ≡ false) → IsRolledBack m x (process_core stop s) (process_core stop t)
      -- what is still to be undone leads to the same
      pub rest : (stop : ℕ) → after_undoing_while m (rolls m reach) s.number (history t) (process_core stop t) ≡ after_undoing_while m (rolls m reach) s.number (history s) (process_core stop s)

    pub rolling_none : (s : Logical M E) → IsRolling s s
    rolling_none s = record {
      share = record { model = refl; number = refl; past = refl; done = refl; bound = refl };
      kept = refl;
      undone = λ stop x home late. (0, refl);
      rest = λ stop. refl;
    }

    pub rolling_same : (s t u : Logical M E) → IsRolling s t → u ≡ t → IsRolling s u
    rolling_same s t u far is = subst (IsRolling s) (sym is) far

    rolling_more : (s t u : Logical M E) → IsRolling s t → has_newest (rolls m reach) t.ahead ≡ true → IsOneUndone m t u → IsRolling s u
    rolling_more s t u far must h =
        let e = h.0 in
        let older = h.1 in
        let left = older ++ t.past in
        let newest : history t ≡ e ∷ left = ap (λ a. a ++ t.past) h.2 in
        let goes : rolls m reach e ≡ true = ap (has_newest (rolls m reach)) (sym h.2) ∙ must in
        subst (IsRolling s) (sym h.3) (record {
          share = record { model = far.share.model; number = far.share.number; past = far.share.past; done = far.share.done; bound = far.share.bound };
          kept = far.kept;
          undone = λ stop x home late. (
              let C = process_core stop t in
              let before = far.undone stop x home late in
              let at : m.dst x ≡ t.number = home ∙ sym far.share.number in
              let here : C.history (m.dst x) ≡ e ∷ left = cond-true (m.dst x == t.number) (history t) [] (eq-eqb (m.dst x) t.number at) ∙ newest in
              let one : process_core stop (undone_at m t e older) ≡ after_undoing m C (m.dst x) e left = core_undone stop t e older ∙ ap (λ r. after_undoing m C r e left) (sym at) in
              (suc before.0, (C, before.1, (e, left, here, late e goes, one))));
          rest = λ stop.
              ap (after_undoing_while m (rolls m reach) s.number left) (core_undone stop t e older ∙ ap (λ r. after_undoing m (process_core stop t) r e left) far.share.number)
              ∙ (sym (cond-true (rolls m reach e) (after_undoing_while m (rolls m reach) s.number left (after_undoing m (process_core stop t) s.number e left)) (process_core stop t) goes)
              ∙ (ap (λ h. after_undoing_while m (rolls m reach) s.number h (process_core stop t)) (sym newest) ∙ far.rest stop));
        })

  module _ (law : IsLawful m) where
    -- an event of an earlier time is before it
    by_time : (p e : E) → m.time p < m.time e → m.before p e ≡ true
    by_time p e early =
        elim (cases_Bool (m.before p e)) [
          | inl before ↦ before
          | inr not_before ↦ elim (cases_Bool (m.before e p)) [
            | inl back ↦ let late = law.timely e p back in absurd (omega arith)
            | inr neither ↦ let same = ap m.time (law.total p e not_before neither) in absurd (omega arith)
          ]
        ]

    -- and stays handled
    stays_handled : (reach : Reach E) (p : E) → m.time p < begins m reach → rolls m reach p ≡ false
    stays_handled (Later e) p early = not_back m law p e (by_time p e early)
    stays_handled (From e) p early = ap not (by_time p e early)
    stays_handled (Since time) p early = ap not (lt-ltb (m.time p) time early)

    -- nothing more is to be undone: committed events are before what is undone
    done_here : (reach : Reach E) (ahead past : List E) (r : ℕ) (C : Core E) → has_newest (rolls m reach) ahead ≡ false → AllByRecursion (λ p. m.time p < begins m reach) past
        → after_undoing_while m (rolls m reach) r (ahead ++ past) C ≡ C
    done_here reach (x ∷ older) past r C stops early = rw stops refl
    done_here reach [] [] r C stops early = refl
    done_here reach [] (p ∷ past) r C stops early = rw (stays_handled reach p early.0) refl

    earlier : (past : List E) (bound later : ℕ) → bound ≤ later → AllByRecursion (λ p. m.time p < bound) past → AllByRecursion (λ p. m.time p < later) past
    earlier [] bound later le all = tt
    earlier (p ∷ past) bound later le all = ((let k = all.0 in omega arith), earlier past bound later le all.1)

    -- the rollback is whole
    rolling_done : {M : Type 0} (reach : Reach E) (s t : Logical M E) → IsRolling reach s t → AllByRecursion (λ p. m.time p < s.bound) s.past → s.bound ≤ begins m reach
        → has_newest (rolls m reach) t.ahead ≡ false
        → (stop : ℕ) → process_core stop t ≡ after_undoing_while m (rolls m reach) s.number (history s) (process_core stop s)
    rolling_done reach s t far early late stops stop =
        let all : AllByRecursion (λ p. m.time p < begins m reach) t.past = subst (AllByRecursion (λ p. m.time p < begins m reach)) (sym far.share.past) (earlier s.past s.bound (begins m reach) late early) in
        sym (done_here reach t.ahead t.past s.number (process_core stop t) stops all) ∙ far.rest stop

module _ {S E M : Type 0} (sim : M → Simulation S E) (reach : Reach E) (s t : Logical M E) (far : IsRolling (sim s.model) reach s t) (goes : Bool)
    (is : goes ≡ has_newest (rolls (sim t.model) reach) t.ahead) where
  told_there : has_newest (rolls (sim s.model) reach) t.ahead ≡ goes
  told_there = ap (λ model. has_newest (rolls (sim model) reach) t.ahead) (sym far.share.model) ∙ sym is

  -- one event more is undone
  pub then_more : (u : Logical M E) → goes ≡ true → IsOneUndone (sim t.model) t u → IsRolling (sim s.model) reach s u
  then_more u more one = rolling_more (sim s.model) reach s t u far (told_there ∙ more) (subst (λ model. IsOneUndone (sim model) t u) far.share.model one)

  -- or all are
  pub then_done : goes ≡ false → IsLawful (sim s.model) → AllByRecursion (λ p. (sim s.model).time p < s.bound) s.past → s.bound ≤ begins (sim s.model) reach
      → (stop : ℕ) → process_core stop t ≡ after_undoing_while (sim s.model) (rolls (sim s.model) reach) s.number (history s) (process_core stop s)
  then_done none law early late = rolling_done (sim s.model) law reach s t far early late (told_there ∙ none)
