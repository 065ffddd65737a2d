-- A run whose events are dealt out to routers: those of all routers together, in order, are the run.
use Rattle.std.proofs.Common.{◌≡◌, ℕ, zero, suc, ◌+◌, ◌<◌, ◌≤◌, ◌==◌, true, List, [], ◌∷◌, ◌++◌, append_assoc, flat_map, nat_lt, reverse, refl, ap, sym, ◌∙◌, inl, inr, arith}
use Rattle.std.proofs.lemmas.Bool.{cases_Bool, cases_eq, eq-eqb, ltb-false, ltb-true, ne_eqb}
use Rattle.std.proofs.lemmas.List.{reverse-append}
use Rattle.std.specs.List.{range_with_len}
use Rattle.tw_sim.proofs.Counts.{in_head, is_order, none, times-append, times-filter-no, times-filter-yes}
use Rattle.tw_sim.proofs.Ordered.{not_back}
use Rattle.tw_sim.specs.Seq.{insert_all}
use Rattle.tw_sim.specs.Simulation.{Simulation, IsFalling, IsLawful, only, times}
use Rattle.tw_warp.proofs.InOrder.{same_order}

module _ {S E : Type 0} (m : Simulation S E) (law : IsLawful m) where
  -- the events of a falling history, each put in order before those that are there
  behind : (e : E) (es acc : List E) → ((x : E) → 0 < times m x es → m.before x e ≡ true) → IsFalling m es → insert_all m es (e ∷ acc) ≡ reverse es ++ (e ∷ acc)
  behind e [] acc first falling = refl
  behind e (x ∷ es) acc first falling =
      let earlier : m.before x e ≡ true = first x (in_head m law x es) in
      rw (not_back m.before m.same (is_order m law) x e earlier)
      (behind x es (e ∷ acc) falling.0 falling.1
      ∙ (sym (append_assoc (reverse es) (x ∷ []) (e ∷ acc)) ∙ ap (λ ys. ys ++ (e ∷ acc)) (sym (reverse-append (x ∷ []) es))))

  -- a falling history in order is that history the other way round
  turned : (es : List E) → IsFalling m es → insert_all m es [] ≡ reverse es
  turned [] falling = refl
  turned (e ∷ es) falling = behind e es [] falling.0 falling.1 ∙ sym (reverse-append (e ∷ []) es)

  -- the events of the routers from a on, where each router has its own of a list
  record AreDealt (run : List E) (a n : ℕ) (e : E) (count : ℕ) : Type 0 where
    pub within : a ≤ m.dst e → m.dst e < a + n → count ≡ times m e run
    pub before : m.dst e < a → count ≡ 0
    pub past : a + n ≤ m.dst e → count ≡ 0

  dealt : (f : ℕ → List E) (run : List E) (a n : ℕ) (e : E) → ((r : ℕ) → r < a + n → f r ≡ only m r run) → AreDealt run a n e (times m e (flat_map f (range_with_len a n)))
  dealt f run a zero e each = record { within = λ least most. absurd (omega arith); before = λ h. refl; past = λ h. refl }
  dealt f run a (suc n) e each =
      let more = dealt f run (a + 1) n e (λ r l. each r (omega arith)) in
      let sum = times-append m e (f a) (flat_map f (range_with_len (a + 1) n)) in
      let own : times m e (f a) ≡ times m e (only m a run) = ap (times m e) (each a (omega arith)) in
      elim (cases_eq (m.dst e) a) [
        | inl here ↦ (
            let mine = times-filter-yes m law (λ x. m.dst x == a) e run (eq-eqb (m.dst e) a here) in
            let others = more.before (omega arith) in
            record { within = λ least most. omega arith; before = λ h. absurd (omega arith); past = λ h. absurd (omega arith) })
        | inr apart ↦ (
            let none_here = times-filter-no m law (λ x. m.dst x == a) e run (ne_eqb (m.dst e) a apart) in
            record {
              within = λ least most. let rest = more.within (grind arith) (omega arith) in omega arith;
              before = λ h. let rest = more.before (omega arith) in omega arith;
              past = λ h. let rest = more.past (omega arith) in omega arith;
            })
      ]

  -- each router has handled its own events of a run, which suit it
  module _ (run : List E) (falling : IsFalling m run) (history : ℕ → List E) (own : (r : ℕ) → history r ≡ only m r run)
      (suit : (e : E) → 0 < times m e (history (m.dst e)) → m.suits e ≡ true) where
    -- no event of the run is for a router that is not there
    pub all_there : (e : E) → m.routers ≤ m.dst e → times m e run ≡ 0
    all_there e past =
        none (times m e run) (λ some.
        let mine = times-filter-yes m law (λ x. m.dst x == m.dst e) e run (eq-eqb (m.dst e) (m.dst e) refl) in
        let there : times m e (history (m.dst e)) ≡ times m e (only m (m.dst e) run) = ap (times m e) (own (m.dst e)) in
        let receiver = law.receiver e (suit e (omega arith)) in
        omega arith)

    -- the events of all routers in order are the run
    pub together : (f : ℕ → List E) → ((r : ℕ) → r < m.routers → f r ≡ history r) → insert_all m (flat_map f (range_with_len 0 m.routers)) [] ≡ reverse run
    together f each =
        same_order m law (flat_map f (range_with_len 0 m.routers)) run (λ e.
        let counts = dealt f run 0 m.routers e (λ r l. each r (omega arith) ∙ own r) in
        elim (cases_Bool (nat_lt (m.dst e) m.routers)) [
          | inl there ↦ counts.within (omega arith) (let h = ltb-true (m.dst e) m.routers there in omega arith)
          | inr past ↦ (let h = ltb-false (m.dst e) m.routers past in counts.past (omega arith) ∙ sym (all_there e h))
        ])
        ∙ turned run falling
