-- What a rollback leaves, as far as it has gone.
use Rattle.std.proofs.Common.{◌≡◌, Result, Ok, Err, ℕ, suc, ◌<◌, ◌≤◌, true, false, not, length, List, [], ◌∷◌, ◌++◌, slice_get, cond, refl, ap, sym, ◌∙◌, subst, inl, inr, arith}
use Rattle.std.specs.List.{AllByRecursion}
use Rattle.std.specs.Prelude.{OnErr}
use Rattle.std.specs.Option.{option_map_or}
use Rattle.std.proofs.lemmas.Bool.{cases_Bool}
use Rattle.tw_core.specs.Machine.{Core}
use Rattle.tw_core.specs.Steps.{after_undoing, after_undoing_while}
use Rattle.tw_event.specs.declared.event.Event.{Event}
use Rattle.tw_event.specs.Order.{event_before}
use Rattle.tw_model.specs.Case.{Case, IsCase, simulation}
use Rattle.tw_model.proofs.Lawful.{lawful}
use Rattle.tw_shard.specs.Arrival.{IsRolledBack, rolls}
use Rattle.tw_shard.specs.declared.rejection.Reach.{Reach}
use Rattle.tw_shard.specs.declared.rejection.Reach.TheVariants.{From, Later}
use Rattle.tw_shard.specs.Shard.{IsSameShare, IsSoundShard, IsUndone, Shard, Terms, owns, shard_core, timeline, undone_at}
use Rattle.tw_shard.specs.Timeline.{history}
use Rattle.tw_shard.proofs.Shares.{timeline_here}
use Rattle.tw_shard.proofs.Steps.{core_undone}

-- what has to be undone is not before the event that comes
pub rolled_late : (case : Case) → IsCase case → (reach : Reach) (e x : Event) → rolls reach e x ≡ true → event_before x e ≡ false
rolled_late case is Later e x h =
    let law = lawful case is in
    elim (cases_Bool (event_before x e)) [
      | inl back ↦ absurd (cc (law.trans e x e h back, law.not_self e))
      | inr late ↦ late
    ]
rolled_late case is From e x h =
    elim (cases_Bool (event_before x e)) [
      | inl back ↦ absurd (cc (ap not back ∙ refl, h))
      | inr late ↦ late
    ]

-- an event of an earlier time is before it
by_time : (case : Case) → IsCase case → (p e : Event) → p.time < e.time → event_before p e ≡ true
by_time case is p e early =
    let law = lawful case is in
    elim (cases_Bool (event_before p e)) [
      | inl before ↦ before
      | inr not_before ↦ elim (cases_Bool (event_before e p)) [
        | inl back ↦ let late = law.timely e p back in absurd (omega arith)
        | inr neither ↦ let same = ap (λ x. x.time) (law.total p e not_before neither) in absurd (omega arith)
      ]
    ]

-- and stays handled
pub stays_handled : (case : Case) → IsCase case → (reach : Reach) (e p : Event) → p.time < e.time → rolls reach e p ≡ false
stays_handled case is Later e p early =
    let law = lawful case is in
    let before = by_time case is p e early in
    elim (cases_Bool (event_before e p)) [
      | inl back ↦ absurd (cc (law.trans e p e back before, law.not_self e))
      | inr stays ↦ stays
    ]
stays_handled case is From e p early = ap not (by_time case is p e early)

-- where a shard has been rolled back for e as far as this
pub record IsRolling (reach : Reach) (e : Event) (s t : Shard) : Type 0 where
  pub own : owns t e.dst ≡ true
  pub share : IsSameShare s t
  pub kept : t.kept ≡ s.kept
  pub bound : t.bound ≡ s.bound
  -- what was undone
  pub undone : (stop : ℕ) → IsRolledBack (simulation t.terms.case) e (shard_core stop s) (shard_core stop t)
  -- what is still to be undone leads to the same
  pub rest : (stop : ℕ) → after_undoing_while (simulation t.terms.case) (rolls reach e) e.dst (history (timeline t e.dst)) (shard_core stop t)
      ≡ after_undoing_while (simulation t.terms.case) (rolls reach e) e.dst (history (timeline s e.dst)) (shard_core stop s)

pub rolling_none : (reach : Reach) (e : Event) (s : Shard) → owns s e.dst ≡ true → IsRolling reach e s s
rolling_none reach e s own = record {
  own = own;
  share = record { terms = refl; routers = refl };
  kept = refl;
  bound = refl;
  undone = λ stop. (0, refl);
  rest = λ stop. refl;
}

-- the newest event that can be undone is to be undone
abbrev pub must_go : Reach → Event → Shard → Type 0
must_go reach e t = option_map_or (λ newest. rolls reach e newest) (slice_get (timeline t e.dst).ahead 0) false ≡ true

pub rolling_more : (reach : Reach) (e : Event) (s t u : Shard) → IsSoundShard t → IsRolling reach e s t → must_go reach e t → IsUndone e.dst t u → IsRolling reach e s u
rolling_more reach e s t u whole far must h =
    let m = simulation t.terms.case in
    let r = e.dst in
    let x = h.0 in
    let older = h.1 in
    let past = (timeline t r).past in
    let newest : history (timeline t r) ≡ x ∷ (older ++ past) = ap (λ ahead. ahead ++ past) h.2 in
    let goes : rolls reach e x ≡ true = ap (λ ahead. option_map_or (λ newest. rolls reach e newest) (slice_get ahead 0) false) (sym h.2) ∙ must in
    let here : (stop : ℕ) → (shard_core stop t).history r ≡ x ∷ (older ++ past) = λ stop. (let own = far.own in rw own newest) in
    let one : (stop : ℕ) → shard_core stop (undone_at t r x older) ≡ after_undoing m (shard_core stop t) r x (older ++ past) = λ stop. core_undone t r whole far.own stop x older h.3 in
    let left : history (timeline (undone_at t r x older) r) ≡ older ++ past =
    ap history (timeline_here t r (record (timeline t r) { ahead = older }) (undone_at t r x older).pending (undone_at t r x older).outgoing (undone_at t r x older).held whole far.own) in
    subst (IsRolling reach e s) (sym h.4) (record {
      own = far.own;
      share = record { terms = far.share.terms; routers = far.share.routers };
      kept = far.kept;
      bound = far.bound;
      undone = λ stop. (suc (far.undone stop).0, (shard_core stop t, (far.undone stop).1, (x, older ++ past, here stop, rolled_late t.terms.case whole.case reach e x goes, one stop)));
      rest = λ stop.
          (λ i. after_undoing_while m (rolls reach e) r (left i) (one stop i))
          ∙ (sym (ap (λ b. cond b (after_undoing_while m (rolls reach e) r (older ++ past) (after_undoing m (shard_core stop t) r x (older ++ past))) (shard_core stop t)) goes)
          ∙ (ap (λ xs. after_undoing_while m (rolls reach e) r xs (shard_core stop t)) (sym newest) ∙ far.rest stop));
    })

-- nothing more is to be undone: committed events are before what comes
pub done_here : (case : Case) → IsCase case → (reach : Reach) (e : Event) (ahead past : List Event) (C : Core Event)
    → option_map_or (λ newest. rolls reach e newest) (slice_get ahead 0) false ≡ false → AllByRecursion (λ p. p.time < e.time) past
    → after_undoing_while (simulation case) (rolls reach e) e.dst (ahead ++ past) C ≡ C
done_here case is reach e (x ∷ older) past C stops early = rw stops refl
done_here case is reach e [] [] C stops early = refl
done_here case is reach e [] (p ∷ past) C stops early = rw (stays_handled case is reach e p early.0) refl

times_before : (k t : ℕ) (past : List Event) → k ≤ t → AllByRecursion (λ (p : Event). p.time < k) past → AllByRecursion (λ (p : Event). p.time < t) past
times_before k t [] le all = tt
times_before k t (p ∷ past) le all = ((let early = all.0 in omega arith), times_before k t past le all.1)

-- the rollback is whole
pub rolling_done : (reach : Reach) (e : Event) (s t : Shard) → IsSoundShard t → IsRolling reach e s t → owns s e.dst ≡ true → s.bound ≤ e.time
    → option_map_or (λ newest. rolls reach e newest) (slice_get (timeline t e.dst).ahead 0) false ≡ false
    → AllByRecursion (λ (p : Event). p.time < (timeline t e.dst).done) (timeline t e.dst).past
    → (stop : ℕ) → shard_core stop t ≡ after_undoing_while (simulation s.terms.case) (rolls reach e) e.dst ((shard_core stop s).history e.dst) (shard_core stop s)
rolling_done reach e s t whole far mine late stops past stop =
    let line = timeline t e.dst in
    let own = whole.routers e.dst far.own in
    let early = let done = own.done in let bound = far.bound in times_before line.done e.time line.past (omega arith) past in
    let here : (shard_core stop s).history e.dst ≡ history (timeline s e.dst) = rw mine refl in
    sym (done_here t.terms.case whole.case reach e line.ahead line.past (shard_core stop t) stops early)
    ∙ (far.rest stop
    ∙ (λ i. after_undoing_while (simulation (far.share.terms i).case) (rolls reach e) e.dst (sym here i) (shard_core stop s)))

-- fewer events are left that can be undone
pub fewer_left : (t u : Shard) (r : ℕ) → IsSoundShard t → owns t r ≡ true → IsUndone r t u → length (timeline u r).ahead < length (timeline t r).ahead
fewer_left t u r whole mine h =
    let s = undone_at t r h.0 h.1 in
    let left = ap (λ l. length l.ahead) (timeline_here t r (record (timeline t r) { ahead = h.1 }) s.pending s.outgoing s.held whole mine) in
    let after = ap (λ s. length (timeline s r).ahead) h.4 in
    let before = ap length h.2 in
    omega arith

-- what was undone, by the case that the shard had before
pub rolled_so_far : (reach : Reach) (e : Event) (s t u : Shard) → IsRolling reach e s t → u ≡ t → (stop : ℕ) → IsRolledBack (simulation s.terms.case) e (shard_core stop s) (shard_core stop u)
rolled_so_far reach e s t u far is stop =
    subst (λ v. IsRolledBack (simulation s.terms.case) e (shard_core stop s) (shard_core stop v)) (sym is)
    (subst (λ (x : Terms). IsRolledBack (simulation x.case) e (shard_core stop s) (shard_core stop t)) far.share.terms (far.undone stop))

-- the same from a shard that is equal
pub rolled_from : (s o t : Shard) (e : Event) → s ≡ o → ((stop : ℕ) → IsRolledBack (simulation s.terms.case) e (shard_core stop s) (shard_core stop t))
    → (stop : ℕ) → IsRolledBack (simulation o.terms.case) e (shard_core stop o) (shard_core stop t)
rolled_from s o t e is h stop = subst (λ s. IsRolledBack (simulation s.terms.case) e (shard_core stop s) (shard_core stop t)) is (h stop)

-- nothing was undone
pub rolled_none : (o t : Shard) (e : Event) → t ≡ o → (stop : ℕ) → IsRolledBack (simulation o.terms.case) e (shard_core stop o) (shard_core stop t)
rolled_none o t e is stop = (0, ap (shard_core stop) is)

-- what holds in any case holds at an error
pub on_err : {A E : Type 0} {P : Type 0} (r : Result A E) → P → OnErr r P
on_err (Ok a) p = tt
on_err (Err e) p = p

-- the same to a shard that is equal
pub rolled_to : (o t u : Shard) (e : Event) → u ≡ t → ((stop : ℕ) → IsRolledBack (simulation o.terms.case) e (shard_core stop o) (shard_core stop t))
    → (stop : ℕ) → IsRolledBack (simulation o.terms.case) e (shard_core stop o) (shard_core stop u)
rolled_to o t u e is h stop = subst (λ u. IsRolledBack (simulation o.terms.case) e (shard_core stop o) (shard_core stop u)) (sym is) (h stop)
