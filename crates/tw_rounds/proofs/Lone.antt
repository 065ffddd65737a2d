-- A run by one thread alone, one turn of the sequential run after the other.
use Rattle.std.proofs.Common.{◌≡◌, ℕ, zero, suc, ◌+◌, ◌<◌, ◌≤◌, ◌==◌, Bool, true, List, [], ◌∷◌, Some, length, nat_lt, slice_get, refl, ap, sym, ◌∙◌, subst, inl, inr, arith}
use Rattle.std.proofs.lemmas.Bool.{cases_Bool, cases_lt, le-ltb}
use Rattle.std.specs.List.{filter}
use Rattle.tw_core.proofs.Cuts.{run_to_zero}
use Rattle.tw_engine.specs.Past.{log_after}
use Rattle.tw_process.specs.declared.limits.TheConstants.{LATEST}
use Rattle.tw_rounds.specs.Alone.{AreCommitted, IsAlone, IsCommitted, bound_of, first_time, run_at}
use Rattle.tw_rounds.specs.Members.{Mailed, beginning_of}
use Rattle.tw_sequential.proofs.Running.{begun_later, complete_at}
use Rattle.tw_sequential.specs.Run.{IsBegun, NoneBefore, Run, complete_run, world}
use Rattle.tw_sim.proofs.Closed.{rest_late, running_seq}
use Rattle.tw_sim.proofs.Counts.{in_cons, in_filter, in_head, none, times-insert_all}
use Rattle.tw_sim.proofs.Rising.{AllSuit, rising-begin, rising-turns, suit-begin, suit-turns}
use Rattle.tw_sim.proofs.Seq.{turn_over, turn_soon}
use Rattle.tw_sim.proofs.Unique.{all_below}
use Rattle.tw_sim.specs.Rising.{IsRising}
use Rattle.tw_sim.specs.Seq.{World, begin, insert_all, log, seq, turn, turns}
use Rattle.tw_sim.specs.Simulation.{Simulation, IsLawful, IsNumbered, below, only, state, times}

-- two tests, one after the other or the other way round
filters : {A : Type 0} (p q : A → Bool) (xs : List A) → filter p (filter q xs) ≡ filter q (filter p xs)
filters p q [] = refl
filters p q (x ∷ xs) = grind (arith, cases_Bool, filters p q xs)

module _ {S E : Type 0} (m : Simulation S E) where
  -- ---- the first of some events

  pub first-le : (stop : ℕ) (rest : List E) → first_time m stop rest ≤ stop
  first-le stop [] = omega arith
  first-le stop (e ∷ later) = omega arith

  -- where none is before the stop
  pub none_first : (stop : ℕ) (rest : List E) → NoneBefore m stop rest → first_time m stop rest ≡ stop
  none_first stop [] h = refl
  none_first stop (e ∷ later) h = omega (arith, h)

  pub first_raised : (stop later : ℕ) (rest : List E) → stop ≤ later → first_time m stop rest ≤ first_time m later rest
  first_raised stop later [] le = le
  first_raised stop later (e ∷ rest) le = omega (arith, le)

  pub none_before : (stop : ℕ) (rest : List E) → NoneBefore m (first_time m stop rest) rest
  none_before stop [] = tt
  none_before stop (e ∷ later) = omega arith

  pub bound-le : {M : Type 0} (run : Run M E) → bound_of m run ≤ run.stop
  bound-le run = first-le run.stop run.rest

module _ {S E : Type 0} (m : Simulation S E) (law : IsLawful m) where
  -- what an event sends and what was pending behind it is not before it
  pub put_late : (b : ℕ) (s : S) (x : E) (rest : List E) → b ≤ m.time x → ((e : E) → 0 < times m e rest → b ≤ m.time e) → (e : E) → 0 < times m e (insert_all m (m.sends s x) rest) → b ≤ m.time e
  put_late b s x rest here late e h =
      let all = times-insert_all m e (m.sends s x) rest in
      elim (cases_lt 0 (times m e rest)) [
        | inl k ↦ late e k
        | inr k ↦ (let after = law.later s x e (omega (arith, k, h, all)) in omega (arith, after, here))
      ]

  -- turns that take no event before a time leave what is handled before it
  turns_below : (b n t : ℕ) (older rest : List E) → ((e : E) → 0 < times m e rest → b ≤ m.time e) → below m b (turns m n t (record { log = older; rest = rest })).log ≡ below m b older
  turns_below b zero t older rest late = refl
  turns_below b (suc n) t older [] late = turns_below b n t older [] late
  turns_below b (suc n) t older (x ∷ rest) late =
      let here = late x (in_head m law x rest) in
      let behind : (e : E) → 0 < times m e rest → b ≤ m.time e = λ e h. late e (omega (arith, h)) in
      elim (cases_lt (m.time x) t) [
        | inl soon ↦
            ap (λ w. below m b (turns m n t w).log) (turn_soon m t older x rest soon)
            ∙ (turns_below b n t (x ∷ older) _ (put_late b (state m (m.dst x) (only m (m.dst x) older)) x rest here behind) ∙ (let no = le-ltb (m.time x) b here in rw no refl))
        | inr over ↦ ap (λ w. below m b (turns m n t w).log) (turn_over m t (record { log = older; rest = x ∷ rest }) over) ∙ turns_below b n t older (x ∷ rest) late
      ]

  -- ---- the bound

  pub first_late : (t stop : ℕ) (rest : List E) → t ≤ stop → ((e : E) → 0 < times m e rest → t ≤ m.time e) → t ≤ first_time m stop rest
  first_late t stop [] le late = le
  first_late t stop (x ∷ rest) le late = let here = late x (in_head m law x rest) in omega (arith, here, le)

  -- where none of a list in ascending order is before its first one
  pub first_least : (x : E) (rest : List E) → IsRising m.before m.same (x ∷ rest) → (e : E) → 0 < times m e (x ∷ rest) → m.time x ≤ m.time e
  first_least x rest rising e h = elim (in_cons m law e x rest h) [
    | inl is ↦ subst (λ z. m.time x ≤ m.time z) (sym is) (omega arith)
    | inr k ↦ elim (cases_Bool (m.before x e)) [
      | inl b ↦ law.timely x e b
      | inr b ↦ subst (λ z. m.time x ≤ m.time z) (sym (law.total e x (rising.0 e k) b)) (omega arith)
    ]
  ]

  module _ {M : Type 0} where
    pub rising_rest : (run : Run M E) → IsBegun m run → IsRising m.before m.same run.rest
    rising_rest run h = subst (λ w. IsRising m.before m.same w.rest) h.1 (rising-turns m law h.0 run.stop (begin m) (rising-begin m law))

    module _ (run : Run M E) (since n : ℕ) (kept : IsAlone m run since n) where
      pub since-le : since ≤ bound_of m run
      since-le = first_late since run.stop run.rest kept.within kept.late

      -- where all before a time behind that to which it has come is handled, it is the run to that time
      pub world_at : (t : ℕ) → since < t → NoneBefore m t run.rest → world m run ≡ seq m t
      world_at t later h =
          let whole = complete_at m law (record run { stop = t }) (begun_later m (record run { stop = since + 1 }) t (omega (arith, later)) kept.reached) h in
          ap (λ r. world m r) whole

      pub is_complete : bound_of m run ≡ run.stop → run ≡ complete_run m run.model run.stop
      is_complete h = complete_at m law run kept.begun (subst (λ t. NoneBefore m t run.rest) h (none_before m run.stop run.rest))

      -- before its bound each process has handled the sequential run
      pub alone_right : (r : ℕ) → below m (bound_of m run) (only m r run.log) ≡ only m r (log m (bound_of m run))
      alone_right r =
          let b = bound_of m run in
          let soon : (e : E) → 0 < times m e (log m b) → m.time e < b = (running_seq m law kept.numbered b).soon in
          let own : below m b (only m r (log m b)) ≡ only m r (log m b) =
          all_below m law b (only m r (log m b)) (λ e h. soon e (in_filter m law (λ x. m.dst x == r) e (log m b) h).1) in
          elim (cases_lt since b) [
            | inl later ↦ ap (λ w. below m b (only m r w.log)) (world_at b later (none_before m run.stop run.rest)) ∙ own
            | inr not ↦ (
                let same : since ≡ b = (let le = since-le in omega (arith, le, not)) in
                let at_since : world m run ≡ turns m n LATEST (seq m b) = sym kept.after ∙ ap (λ t. turns m n LATEST (seq m t)) same in
                let late : (e : E) → 0 < times m e (seq m b).rest → b ≤ m.time e = rest_late m law kept.numbered b in
                filters (λ x. nat_lt (m.time x) b) (λ x. m.dst x == r) run.log
                ∙ (ap (λ w. only m r (below m b w.log)) at_since
                ∙ (ap (only m r) (turns_below b n LATEST (seq m b).log (seq m b).rest late)
                ∙ (filters (λ x. m.dst x == r) (λ x. nat_lt (m.time x) b) (log m b) ∙ own))))
          ]

      pub pending_suits : (e : E) → 0 < times m e run.rest → m.suits e ≡ true
      pending_suits = (subst (λ w. AllSuit m w) kept.begun.1 (suit-turns m law kept.begun.0 run.stop (begin m) (suit-begin m law))).pending

      -- its stop may rise
      pub alone_raised : (stop : ℕ) → run.stop ≤ stop → stop ≤ LATEST → IsAlone m (record run { stop = stop }) since n
      alone_raised stop le most = record {
        law = law;
        numbered = kept.numbered;
        begun = begun_later m run stop le kept.begun;
        reached = kept.reached;
        after = kept.after;
        late = kept.late;
        within = (let l = kept.within in omega (arith, l, le));
        stop = most;
      }

    pub committed_raised : (run : Run M E) (stop : ℕ) (waits : ℕ → List E) (xs : List (Mailed M E)) → run.stop ≤ stop → AreCommitted m run waits xs → AreCommitted m (record run { stop = stop }) waits xs
    committed_raised run stop waits xs le are = record {
      count = are.count;
      each = λ r x at. (let h = are.each r x at in (
        record {
          model = h.0.model;
          number = h.0.number;
          ahead = h.0.ahead;
          past = h.0.past;
          kept = h.0.kept;
          flight = h.0.flight;
          mail = h.0.mail;
          outbox = h.0.outbox;
          early = h.0.early;
          done = (let d = h.0.done in omega (arith, d, le));
          bound = (let d = h.0.bound in omega (arith, d, le));
        },
        h.1,
      ));
    }

    -- ---- the beginning

    module _ (numbered : IsNumbered m) (model : M) (pending : List E) (is : pending ≡ (begin m).rest) where
      opened : world m (run_at m model 0 0 0 pending) ≡ begin m
      opened = ap (λ (v : World E). record { log = v.log; rest = pending }) (run_to_zero m law) ∙ ap (λ xs. record { log = []; rest = xs }) is

      pub alone_opened : IsAlone m (run_at m model 0 0 0 pending) 0 0
      alone_opened = record {
        law = law;
        numbered = numbered;
        begun = (0, sym opened);
        reached = (0, sym opened);
        after = run_to_zero m law ∙ sym opened;
        late = λ e h. omega arith;
        within = omega arith;
        stop = omega arith;
      }

      pub none_logged : (log_after m 0 0) ≡ []
      none_logged = ap (λ w. w.log) opened

      pub committed_opened : (xs : List (Mailed M E)) → length xs ≡ m.routers → ((i : ℕ) (x : Mailed M E) → slice_get xs i ≡ Some x → x ≡ beginning_of model i)
          → AreCommitted m (run_at m model 0 0 0 pending) (λ r. []) xs
      committed_opened xs count each = record {
        count = count;
        each = λ r x at. (
          subst (IsCommitted m (run_at m model 0 0 0 pending) r) (sym (each r x at)) (record {
            model = refl;
            number = refl;
            ahead = refl;
            past = sym (ap (only m r) none_logged);
            kept = refl;
            flight = refl;
            mail = refl;
            outbox = refl;
            early = λ e h. absurd (omega (arith, h));
            done = omega arith;
            bound = omega arith;
          }),
          ap (λ y. y.process.pending) (each r x at),
        );
      }
