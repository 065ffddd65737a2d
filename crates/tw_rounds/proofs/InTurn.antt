-- One event more, handled by one thread alone in the sequential run's own turn.
use Rattle.std.proofs.Common.{◌≡◌, ℕ, ◌+◌, ◌<◌, ◌≤◌, true, List, [], ◌∷◌, Some, drop, set, slice_get, length-set, refl, ap, sym, ◌∙◌, subst, inl, inr, arith}
use Rattle.std.proofs.lemmas.Bool.{cases_lt, eq-eqb, ne_eqb}
use Rattle.tw_engine.specs.Past.{log_after}
use Rattle.tw_engine.specs.Process.{handled_in_turn}
use Rattle.tw_process.specs.declared.limits.TheConstants.{LATEST}
use Rattle.tw_rounds.proofs.Lone.{first_late, first_least, put_late, rising_rest, world_at}
use Rattle.tw_rounds.proofs.Lists.{set_others}
use Rattle.tw_rounds.specs.Alone.{AreCommitted, IsAlone, IsCommitted, bound_of, first_time, run_at}
use Rattle.tw_rounds.specs.Members.{Mailed}
use Rattle.tw_sequential.proofs.Running.{begun_later, begun_next, next_suits}
use Rattle.tw_sequential.specs.Run.{IsNext, IsNextRun, NoneBefore, Run, world}
use Rattle.tw_sim.proofs.Counts.{in_cons, in_head}
use Rattle.tw_sim.proofs.Seq.{turn_soon, turns-add}
use Rattle.tw_sim.specs.Rising.{IsRising}
use Rattle.tw_sim.specs.Seq.{insert_all, seq, turns}
use Rattle.tw_sim.specs.Simulation.{Simulation, IsLawful, only, state, times}

module _ {M S E : Type 0} (m : Simulation S E) (law : IsLawful m) (model : M) (stop since n : ℕ) (pending : List E) (kept : IsAlone m (run_at m model stop since n pending) since n)
    (e : E) (next : IsNext m (run_at m model stop since n pending) e) where
  -- the run
  abbrev now : Run M E
  now = run_at m model stop since n pending

  -- what e sends
  abbrev pub sent : List E
  sent = m.sends (state m (m.dst e) (only m (m.dst e) now.log)) e

  -- how far it has come then
  pub record IsFurther (since' n' : ℕ) : Type 0 where
    pub later : since < m.time e → (since' ≡ m.time e) × (n' ≡ 1)
    pub same : m.time e ≤ since → (since' ≡ since) × (n' ≡ n + 1)

  pub here : since ≤ m.time e
  here = kept.late e (subst (λ xs. 0 < times m e xs) (sym next.1) (in_head m law e next.0))

  pub suits : m.suits e ≡ true
  suits = next_suits m law now e kept.begun next

  -- all that is pending is not before it
  rest_behind : (x : E) → 0 < times m x next.0 → m.time e ≤ m.time x
  rest_behind x h =
      let rising = subst (IsRising m.before m.same) next.1 (rising_rest m law now kept.begun) in
      first_least m law e next.0 rising x (omega (arith, h))

  -- it is the bound
  bound_here : bound_of m now ≡ m.time e
  bound_here = ap (first_time m stop) next.1 ∙ (let soon = next.2 in omega (arith, soon))

  module _ (since' n' : ℕ) (further : IsFurther since' n') (left : List E) (put : left ≡ insert_all m sent (drop 1 pending)) where
    left_is : left ≡ insert_all m sent next.0
    left_is = put ∙ ap (λ xs. insert_all m sent (drop 1 xs)) next.1

    -- one turn
    to_next : (t : ℕ) → m.time e < t → turns m 1 t (world m now) ≡ record { log = e ∷ now.log; rest = left }
    to_next t soon =
        ap (λ rest. turns m 1 t (record { log = now.log; rest = rest })) next.1
        ∙ (turn_soon m t now.log e next.0 soon ∙ ap (λ xs. record { log = e ∷ now.log; rest = xs }) (sym left_is))

    early : m.time e < LATEST
    early = let most = kept.stop in let soon = next.2 in omega (arith, most, soon)

    after_next : turns m n' LATEST (seq m since') ≡ record { log = e ∷ now.log; rest = left }
    after_next = elim (cases_lt since (m.time e)) [
      | inl later ↦ (
          let is = further.later later in
          let first : NoneBefore m (m.time e) now.rest = subst (NoneBefore m (m.time e)) (sym next.1) (omega arith) in
          ap (λ t. turns m n' LATEST (seq m t)) is.0
          ∙ (ap (λ k. turns m k LATEST (seq m (m.time e))) is.1
          ∙ (ap (λ w. turns m 1 LATEST w) (sym (world_at m law now since n kept (m.time e) later first)) ∙ to_next LATEST early)))
      | inr not ↦ (
          let is = further.same not in
          ap (λ t. turns m n' LATEST (seq m t)) is.0
          ∙ (ap (λ k. turns m k LATEST (seq m since)) is.1
          ∙ (sym (turns-add m n 1 LATEST (seq m since)) ∙ (ap (λ w. turns m 1 LATEST w) kept.after ∙ to_next LATEST early))))
    ]

    -- the run then
    abbrev then : Run M E
    then = run_at m model stop since' n' left

    pub log_next : log_after m since' n' ≡ e ∷ now.log
    log_next = ap (λ w. w.log) after_next

    world_next : world m then ≡ record { log = e ∷ now.log; rest = left }
    world_next = ap (λ xs. record { log = xs; rest = left }) log_next

    pub is_next : IsNextRun m now then
    is_next = (refl, refl, to_next stop next.2 ∙ sym world_next)

    left_late : (x : E) → 0 < times m x left → m.time e ≤ m.time x
    left_late x h =
        put_late m law (m.time e) (state m (m.dst e) (only m (m.dst e) now.log)) e next.0 (omega arith) rest_behind x (subst (λ xs. 0 < times m x xs) left_is h)

    since_next : since' ≤ m.time e
    since_next = elim (cases_lt since (m.time e)) [
      | inl later ↦ (let is = (further.later later).0 in omega (arith, is))
      | inr not ↦ (let is = (further.same not).0 in let le = here in omega (arith, is, le))
    ]

    reach_next : m.time e < since' + 1
    reach_next = elim (cases_lt since (m.time e)) [
      | inl later ↦ (let is = (further.later later).0 in omega (arith, is))
      | inr not ↦ (let is = (further.same not).0 in omega (arith, is, not))
    ]

    since_later : since ≤ since'
    since_later = elim (cases_lt since (m.time e)) [
      | inl later ↦ (let is = (further.later later).0 in omega (arith, is, later))
      | inr not ↦ (let is = (further.same not).0 in omega (arith, is))
    ]

    -- it is kept so
    pub kept_next : IsAlone m then since' n'
    kept_next = record {
      law = law;
      numbered = kept.numbered;
      begun = begun_next m now then kept.begun is_next;
      reached = begun_next m (record now { stop = since' + 1 }) (record then { stop = since' + 1 })
          (begun_later m (record now { stop = since + 1 }) (since' + 1) (let le = since_later in omega (arith, le)) kept.reached)
          (refl, refl, to_next (since' + 1) reach_next ∙ sym world_next);
      after = after_next ∙ sym world_next;
      late = λ x h. (let a = left_late x h in let b = since_next in omega (arith, a, b));
      within = (let a = since_next in let soon = next.2 in omega (arith, a, soon));
      stop = kept.stop;
    }

    -- and its bound has not fallen
    pub bound_rises : bound_of m now ≤ bound_of m then
    bound_rises =
        let soon = next.2 in
        let le = first_late m law (m.time e) stop left (omega (arith, soon)) left_late in
        let is = bound_here in
        omega (arith, le, is)

    -- ---- its processes

    module _ (xs : List (Mailed M E)) (are : AreCommitted m now (λ r. []) xs) (x : Mailed M E) (at : slice_get xs (m.dst e) ≡ Some x) where
      -- the receiver
      abbrev y : Mailed M E
      y = record x { process = handled_in_turn m e x.process }

      was : IsCommitted m now (m.dst e) x
      was = (are.each (m.dst e) x at).0

      own_log : only m (m.dst e) (e ∷ now.log) ≡ e ∷ only m (m.dst e) now.log
      own_log = rw (eq-eqb (m.dst e) (m.dst e) refl) refl

      other_log : (r : ℕ) → (r ≡ m.dst e → ⊥) → only m r (e ∷ now.log) ≡ only m r now.log
      other_log r apart = rw (ne_eqb (m.dst e) r (λ is. apart (sym is))) refl

      is_committed : IsCommitted m then (m.dst e) y
      is_committed = record {
        model = was.model;
        number = was.number;
        ahead = was.ahead;
        past = ap (λ l. e ∷ l) was.past ∙ sym (ap (only m (m.dst e)) log_next ∙ own_log);
        kept = was.kept;
        flight = was.flight;
        mail = was.mail;
        outbox = was.outbox;
        early = λ z h. elim (in_cons m law z e x.process.past h) [
          | inl is ↦ (let same : m.time z ≡ m.time e = ap m.time is in omega (arith, same))
          | inr k ↦ (let old = was.early z k in omega (arith, old))
        ];
        done = (let old = was.done in let soon = next.2 in omega (arith, old, soon));
        bound = (let old = was.bound in let soon = next.2 in omega (arith, old, soon));
      }

      pub are_next : AreCommitted m then (λ r. []) (set xs (m.dst e) y)
      are_next = record {
        count = length-set xs (m.dst e) y ∙ are.count;
        each = set_others (λ r (z : Mailed M E). IsCommitted m then r z × (z.process.pending ≡ [])) xs (m.dst e) y (is_committed, (are.each (m.dst e) x at).1)
            (λ r z there apart. (let old = are.each r z there in (
              record {
                model = old.0.model;
                number = old.0.number;
                ahead = old.0.ahead;
                past = old.0.past ∙ sym (ap (only m r) log_next ∙ other_log r apart);
                kept = old.0.kept;
                flight = old.0.flight;
                mail = old.0.mail;
                outbox = old.0.outbox;
                early = old.0.early;
                done = old.0.done;
                bound = old.0.bound;
              },
              old.1,
            )));
      }

      -- it is its turn
      pub in_turn : only m (m.dst e) (log_after m since' n') ≡ e ∷ x.process.past
      in_turn = ap (only m (m.dst e)) log_next ∙ (own_log ∙ ap (λ l. e ∷ l) (sym was.past))
