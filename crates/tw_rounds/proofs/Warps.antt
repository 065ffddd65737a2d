-- What the rule tells of a run, as its user sees it.
use Rattle.std.proofs.Common.{◌≡◌, ℕ, ◌+◌, ◌<◌, ◌==◌, true, List, [], Option, Some, None, Err, length, map, slice_get, nat_lt, refl, ap, sym, ◌∙◌, subst, inl, inr, arith}
use Rattle.std.proofs.lemmas.Bool.{cases_Bool, cond-true, eq-eqb, ltb-true}
use Rattle.std.specs.Option.{option_map_or}
use Rattle.tw_core.specs.Machine.{count_ahead}
use Rattle.tw_core.specs.Steps.{first_pending, handle, is_newest}
use Rattle.tw_core.specs.declared.refusal.Refusal.TheVariants.{CounterFull}
use Rattle.tw_core.specs.Machine.{Core}
use Rattle.tw_engine.proofs.Machine.{there}
use Rattle.tw_engine.specs.Process.{history, process_core}
use Rattle.tw_rounds.proofs.Lists.{there_at}
use Rattle.tw_rounds.proofs.Rules.{loose_from, self}
use Rattle.tw_rounds.proofs.Stages.{stands_at}
use Rattle.tw_rounds.specs.Members.{Mailed, place_of}
use Rattle.tw_rounds.specs.Ruled.{AreRuled, IsSomeFullBefore, board_of}
use Rattle.tw_rounds.specs.Warp as spec
use Rattle.tw_rounds.specs.Warp.{HasRun, IsRight, IsStuck, Warp}
use Rattle.tw_rule.proofs.Places.{get_map}
use Rattle.tw_rule.proofs.Ruled.{before_of, handled_of}
use Rattle.tw_sim.proofs.Counts.{in_filter}
use Rattle.tw_sim.proofs.Least.{least_is}
use Rattle.tw_sim.specs.declared.machine.Signed.{Signed}
use Rattle.tw_sim.specs.Seq.{log}
use Rattle.tw_sim.specs.Simulation.{Simulation, below, only, state, times}

-- the run that some processes are
abbrev pub warp_of : {M E : Type 0} → M → ℕ → ℕ → List (Mailed M E) → Warp M E
warp_of model stop bound xs = record { model = model; stop = stop; bound = bound; processes = map (λ x. x.process) xs }

-- what a process at its number has handled
handled_at : {M E : Type 0} (model : M) (stop bound : ℕ) (xs : List (Mailed M E)) (r : ℕ) (x : Mailed M E) → slice_get xs r ≡ Some x → spec.handled r (warp_of model stop bound xs) ≡ history x.process
handled_at model stop bound xs r x at = ap (λ o. option_map_or history o []) (get_map (λ (y : Mailed _ _). y.process) xs r x at)

-- its place sees it
place_history : {M E : Type 0} (r : ℕ) (x : Mailed M E) → x.process.number ≡ r → (place_of x).history r ≡ history x.process
place_history r x is = cond-true (r == x.process.number) (history x.process) [] (eq-eqb r x.process.number (sym is))

module _ {S M E : Type 0} (m : Simulation S E) (model : M) (stop bound : ℕ) (flight : List (Signed E)) (xs : List (Mailed M E)) (ruled : AreRuled m model stop bound flight xs) where
  -- the process of a number that is there
  abbrev found : (r : ℕ) → r < m.routers → (x : Mailed M E) × (slice_get xs r ≡ Some x)
  found r l = there_at xs r (let count = ruled.count in omega arith)

  own : (r : ℕ) (x : Mailed M E) → slice_get xs r ≡ Some x → (place_of x).owns r ≡ true
  own r x at = eq-eqb r x.process.number (sym (ruled.each r x at).0)

  has_handled : (r : ℕ) (x : Mailed M E) → slice_get xs r ≡ Some x → (place_of x).history r ≡ spec.handled r (warp_of model stop bound xs)
  has_handled r x at = place_history r x (ruled.each r x at).0 ∙ sym (handled_at model stop bound xs r x at)

  -- before the bound, all have handled the sequential run
  pub is_right : IsRight m (warp_of model stop bound xs)
  is_right r l =
      let x = found r l in
      subst (λ events. below m bound events ≡ only m r (log m bound)) (has_handled r x.0 x.1)
      (before_of m ruled.law self ruled.numbered (board_of (length xs) flight bound stop) (map place_of xs) r bound (place_of x.0) ruled.rule (get_map place_of xs r x.0 x.1) (omega arith)
      r l (own r x.0 x.1))

  -- and where the bound is the stop, all of it
  pub has_run : bound ≡ stop → HasRun m (warp_of model stop bound xs)
  has_run last r l =
      let x = found r l in
      subst (λ events. events ≡ only m r (log m stop)) (has_handled r x.0 x.1)
      (handled_of m ruled.law self ruled.numbered (board_of (length xs) flight bound stop) (map place_of xs) r r (place_of x.0) ruled.rule (get_map place_of xs r x.0 x.1) l
      (own r x.0 x.1) last)

  -- ---- a full counter

  -- why the machine answers that a counter is full
  full_because : (C : Core E) (r : ℕ) (o : Option E) → handle m C r o ≡ Err CounterFull → (e : E) × (o ≡ Some e) × (m.time e < C.stop) × (m.full (state m r (C.history r)) e ≡ true)
  full_because C r None h = cc
  full_because C r (Some e) h =
      elim (cases_Bool (nat_lt (m.time e) C.stop)) [
        | inr b ↦ (let k = rw b at h in cc)
        | inl b ↦ elim (cases_Bool (is_newest m e (C.history r))) [
          | inl c ↦ (let k = rw b at h in let l = rw c at k in cc)
          | inr c ↦ elim (cases_Bool (nat_lt (count_ahead C r) (C.room r))) [
            | inr d ↦ (let k = rw b at h in let l = rw c at k in let n = rw d at l in cc)
            | inl d ↦ elim (cases_Bool (m.full (state m r (C.history r)) e)) [
              | inl f ↦ (e, refl, ltb-true (m.time e) C.stop b, f)
              | inr f ↦ (let k = rw b at h in let l = rw c at k in let n = rw d at l in let o = rw f at n in cc)
            ]
          ]
        ]
      ]

  pub is_stuck : IsSomeFullBefore m (bound + 1) xs → IsStuck m (warp_of model stop bound xs)
  is_stuck some =
      let x = some.member in
      let p = x.process in
      let C = process_core (bound + 1) p in
      let why = full_because C p.number (first_pending m C p.number) some.full in
      let e = why.0 in
      let waits : 0 < times m e p.pending = (in_filter m ruled.law (λ x. m.dst x == p.number) e p.pending (least_is m ruled.law e (only m p.number p.pending) why.1).there).1 in
      let from = loose_from m ruled.law (length xs) bound stop flight (place_of x) ruled.rule.board (stands_at m model stop bound flight xs ruled some.number x some.there) e (omega arith) in
      let soon = why.2 in
      record {
        number = some.number;
        process = p;
        there = get_map (λ (y : Mailed M E). y.process) xs some.number x some.there;
        stuck = record { event = e; first = why.1; time = omega arith; full = subst (λ older. m.full (state m p.number older) e ≡ true) (there (bound + 1) p) why.3 };
      }
