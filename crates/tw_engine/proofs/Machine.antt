-- The machine's steps at the state that a logical process is.
use Rattle.std.proofs.Common.{◌≡◌, ℕ, ◌-◌, ◌<◌, ◌≤◌, ◌==◌, ◌↔◌, ◌^◌, Bool, true, false, List, [], ◌∷◌, ◌++◌, drop, length, length-append, map, slice_get, Option, Some, None, Result, Ok, Err, refl, ap, sym, ◌∙◌, subst, inl, inr, arith}
use Rattle.std.proofs.Math.Path.{fun_ext}
use Rattle.std.proofs.lemmas.Bool.{cases_Bool, cond-true, eq-eqb, false_from_ne_true, le-ltb, lt-ltb}
use Rattle.std.specs.Result.{IsErrOf}
use Rattle.tw_core.specs.Machine.{Core, count_ahead}
use Rattle.tw_core.specs.Steps.{after_handling, first_pending, handle, is_newest, message, put, take_out}
use Rattle.tw_core.specs.declared.refusal.Refusal.{Refusal}
use Rattle.tw_core.specs.declared.refusal.Refusal.TheVariants.{CounterFull, Double, Nothing}
use Rattle.tw_engine.specs.Process.{AreOwn, Logical, history, joined, process_core}
use Rattle.tw_engine.specs.Past.{Handled}
use Rattle.tw_engine.specs.declared.stopped.Stopped.{Stopped}
use Rattle.tw_engine.specs.declared.stopped.Stopped.TheVariants as stopped
use Rattle.tw_process.specs.declared.refused.Refused.{Refused}
use Rattle.tw_process.specs.declared.refused.Refused.TheVariants as refused
use Rattle.tw_sim.specs.declared.machine.Signed.{Signed}
use Rattle.tw_sim.specs.Ordered.{least}
use Rattle.tw_sim.specs.Simulation.{Simulation, IsLawful, only, state}
use Rattle.tw_sim.proofs.Least.{least_rising}
use Rattle.tw_sim.proofs.Rising.{IsRising}

pub nil : {X : Type 0} (xs : List X) → length xs ≡ 0 → xs ≡ []
nil [] h = refl
nil (x ∷ xs) h = absurd (omega arith)

-- a function that has another value at one place, with a third there
pub same_put : {A : Type 0} (d : A) (r : ℕ) (h k : A) → put (put (λ q. d) r h) r k ≡ put (λ q. d) r k
same_put d r h k = fun_ext (λ q. elim (cases_Bool (q == r)) [ inl b ↦ rw b refl | inr b ↦ rw b refl ])

-- the machine sees the process's own history
pub there : {M E : Type 0} (stop : ℕ) (p : Logical M E) → (process_core stop p).history p.number ≡ history p
there stop p = cond-true (p.number == p.number) (history p) [] (eq-eqb p.number p.number refl)

-- and what it has committed
pub committed : {M E : Type 0} (stop : ℕ) (p : Logical M E) → (process_core stop p).past p.number ≡ length p.past
committed stop p = cond-true (p.number == p.number) (length p.past) 0 (eq-eqb p.number p.number refl)

module _ {S E : Type 0} (m : Simulation S E) where
  -- the machine of a process, with other lists
  abbrev core_at : {M : Type 0} → ℕ → Logical M E → (ℕ → List E) → List E → List (Signed E) → Core E
  core_at stop p history pending flight = record (process_core stop p) { history = history; pending = pending; flight = flight }

  same_core : {M : Type 0} (stop : ℕ) (p : Logical M E) (h k : ℕ → List E) (a b : List E) (f g : List (Signed E)) → h ≡ k → a ≡ b → f ≡ g → core_at stop p h a f ≡ core_at stop p k b g
  same_core stop p h k a b f g x y z = ap (λ v. core_at stop p v a f) x ∙ (ap (λ v. core_at stop p k v f) y ∙ ap (λ v. core_at stop p k b v) z)

  -- the machine's tests, one by one
  handle_full : (C : Core E) (r : ℕ) (e : E) → m.time e < C.stop → is_newest m e (C.history r) ≡ false → count_ahead C r < C.room r → m.full (state m r (C.history r)) e ≡ true
      → handle m C r (Some e) ≡ Err CounterFull
  handle_full C r e l n few f = rw (lt-ltb (m.time e) C.stop l, n, lt-ltb (count_ahead C r) (C.room r) few, f) refl

  handle_done : (C : Core E) (r : ℕ) (e : E) → m.time e < C.stop → is_newest m e (C.history r) ≡ false → count_ahead C r < C.room r → m.full (state m r (C.history r)) e ≡ false
      → handle m C r (Some e) ≡ Ok (after_handling m C r e)
  handle_done C r e l n few f = rw (lt-ltb (m.time e) C.stop l, n, lt-ltb (count_ahead C r) (C.room r) few, f) refl

  pub own_rest : (r : ℕ) (xs : List E) → AreOwn m r xs → AreOwn m r (drop 1 xs)
  own_rest r [] own = tt
  own_rest r (x ∷ xs) own = own.1

  -- what stands first is the process's own
  pub head_own : (r : ℕ) (xs : List E) (e : E) → AreOwn m r xs → slice_get xs 0 ≡ Some e → (m.dst e ≡ r) × (m.suits e ≡ true)
  head_own r [] e h g = cc
  head_own r (x ∷ xs) e h g = let is : x ≡ e = cc in subst (λ y. (m.dst y ≡ r) × (m.suits y ≡ true)) is h.0

  own_only : (r : ℕ) (xs : List E) → AreOwn m r xs → only m r xs ≡ xs
  own_only r [] h = refl
  own_only r (x ∷ xs) h = rw (eq-eqb (m.dst x) r h.0.0) (ap (λ ys. x ∷ ys) (own_only r xs h.1))

  module _ (law : IsLawful m) {M : Type 0} (stop : ℕ) (p : Logical M E) (own : AreOwn m p.number p.pending) (rising : IsRising m p.pending) where
    -- the machine's answer
    abbrev answer : Result (Core E) Refusal
    answer = handle m (process_core stop p) p.number (first_pending m (process_core stop p) p.number)

    here : (p.number == p.number) ≡ true
    here = eq-eqb p.number p.number refl

    -- what is told is what the machine refuses, and nothing else
    abbrev Tells : Result (Unit {0}) Stopped → Type 0
    Tells r = (f : Refusal) → IsErrOf r (stopped.Refused f) ↔ (answer ≡ Err f)

    refuses : (x : Refusal) → answer ≡ Err x → Tells (Err (stopped.Refused x))
    refuses x h f = (λ k. cc, λ k. cc)

    goes : (C : Core E) (r : Result (Unit {0}) Stopped) → answer ≡ Ok C → ((f : Refusal) → r ≡ Err (stopped.Refused f) → ⊥) → Tells r
    goes C r h none f = (λ k. absurd (none f k), λ k. cc)

    -- what waits first is what the machine handles
    first : (o : Option E) → o ≡ slice_get p.pending 0 → answer ≡ handle m (process_core stop p) p.number o
    first o h = ap (handle m (process_core stop p) p.number) (ap (least m.before) (own_only p.number p.pending own) ∙ least_rising m law p.pending rising ∙ sym h)

    pub none : None ≡ slice_get p.pending 0 → Tells (Err (stopped.Refused Nothing))
    none h = refuses Nothing (first None h)

    module _ (e : E) (h : Some e ≡ slice_get p.pending 0) where
      pub late : stop ≤ m.time e → Tells (Err (stopped.Refused Nothing))
      late l = refuses Nothing (first (Some e) h ∙ rw (le-ltb (m.time e) stop l) refl)

      pub double : m.time e < stop → (newest : Bool) → newest ≡ is_newest m e (history p) → newest ≡ true → Tells (Err (stopped.Refused Double))
      double l newest is n = refuses Double (first (Some e) h ∙ rw (lt-ltb (m.time e) stop l, here, sym is ∙ n) refl)

    module _ (e : E) (h : Some e ≡ slice_get p.pending 0) (l : m.time e < stop) (newest : Bool) (is : newest ≡ is_newest m e (history p)) (n : newest ≡ false) (few : length p.ahead < 2 ^ 64) where
      n_there : is_newest m e ((process_core stop p).history p.number) ≡ false
      n_there = subst (λ older. is_newest m e older ≡ false) (sym (there stop p)) (sym is ∙ n)

      fits : count_ahead (process_core stop p) p.number < (process_core stop p).room p.number
      fits =
          let both = length-append p.ahead p.past in
          subst (λ older. length older - (process_core stop p).past p.number < 2 ^ 64) (sym (there stop p))
          (subst (λ past. length (history p) - past < 2 ^ 64) (sym (committed stop p)) (omega arith))

      -- a full counter is told exactly where one is full
      abbrev TellsFull : {T : Type 0} → Result T Refused → Type 0
      TellsFull r = IsErrOf r refused.CounterFull ↔ (m.full (state m p.number (history p)) e ≡ true)

      pub counter_full : {T : Type 0} (x : Refused) → x ≡ refused.CounterFull → TellsFull {T = T} (Err x) → Tells (Err (stopped.Refused CounterFull))
      counter_full x full tells =
          refuses CounterFull
          (first (Some e) h ∙ handle_full (process_core stop p) p.number e l n_there fits (subst (λ older. m.full (state m p.number older) e ≡ true) (sym (there stop p)) (tells.0 (ap Err full))))

      done : m.full (state m p.number (history p)) e ≡ false → answer ≡ Ok (after_handling m (process_core stop p) p.number e)
      done f = first (Some e) h ∙ handle_done (process_core stop p) p.number e l n_there fits (subst (λ older. m.full (state m p.number older) e ≡ false) (sym (there stop p)) f)

      not_full : {T : Type 0} (r : Result T Refused) → TellsFull r → (r ≡ Err refused.CounterFull → ⊥) → m.full (state m p.number (history p)) e ≡ false
      not_full r tells none = false_from_ne_true (m.full (state m p.number (history p)) e) (λ full. none (tells.1 full))

      pub no_note : {T : Type 0} (x : Refused) → x ≡ refused.Memory → TellsFull {T = T} (Err x) → Tells (Err stopped.Memory)
      no_note x memory tells = goes (after_handling m (process_core stop p) p.number e) (Err stopped.Memory) (done (not_full (Err x) tells (λ k. cc))) (λ f k. cc)

      pub no_room : {T : Type 0} (t : T) → TellsFull (Ok t) → Tells (Err stopped.Memory)
      no_room t tells = goes (after_handling m (process_core stop p) p.number e) (Err stopped.Memory) (done (not_full (Ok t) tells (λ k. cc))) (λ f k. cc)

      pub went : {T : Type 0} (t : T) → TellsFull (Ok t) → Tells (Ok tt)
      went t tells = goes (after_handling m (process_core stop p) p.number e) (Ok tt) (done (not_full (Ok t) tells (λ k. cc))) (λ f k. cc)

      taken : (xs : List E) → slice_get xs 0 ≡ Some e → take_out m e xs ≡ drop 1 xs
      taken [] g = cc
      taken (x ∷ xs) g = let is : x ≡ e = cc in rw is (rw (law.same_self e) refl)

      -- what the process is then
      handled : after_handling m (process_core stop p) p.number e
          ≡ process_core stop (record p { ahead = e ∷ p.ahead; pending = drop 1 p.pending; flight = p.flight ++ map message (m.sends (state m p.number (history p)) e) })
      handled =
          same_core stop p _ _ _ _ _ _
          (ap (λ older. put (put (λ q. []) p.number (history p)) p.number (e ∷ older)) (there stop p) ∙ same_put [] p.number (history p) (e ∷ history p))
          (taken p.pending (sym h))
          (ap (λ older. p.flight ++ map message (m.sends (state m p.number older) e)) (there stop p))

      -- and so it is, where its parts are these
      pub as_told : {T : Type 0} (t : T) (q : Handled M E) (rest sent before : List E) (flight reserved : List (Signed E)) → q ≡ record { model = p.model; number = p.number; ahead = e ∷ p.ahead; past = p.past; done = p.done }
          → rest ≡ drop 1 p.pending → before ≡ [] → sent ≡ before ++ m.sends (state m p.number (history p)) e → flight ≡ reserved ++ map message sent → reserved ≡ p.flight
          → TellsFull (Ok t) → answer ≡ Ok (process_core stop (joined q rest p.kept flight p.bound))
      as_told t q rest sent before flight reserved a b nothing of out same f =
          let to : Handled M E = record { model = p.model; number = p.number; ahead = e ∷ p.ahead; past = p.past; done = p.done } in
          let all : sent ≡ m.sends (state m p.number (history p)) e = of ∙ ap (λ xs. xs ++ m.sends (state m p.number (history p)) e) nothing in
          let flies : flight ≡ p.flight ++ map message (m.sends (state m p.number (history p)) e) = out ∙ (ap (λ xs. xs ++ map message sent) same ∙ ap (λ xs. p.flight ++ map message xs) all) in
          let joins : joined q rest p.kept flight p.bound ≡ joined to (drop 1 p.pending) p.kept (p.flight ++ map message (m.sends (state m p.number (history p)) e)) p.bound =
          ap (λ x. joined x rest p.kept flight p.bound) a ∙ (ap (λ x. joined to x p.kept flight p.bound) b ∙ ap (λ x. joined to (drop 1 p.pending) p.kept x p.bound) flies) in
          done (not_full (Ok t) f (λ k. cc)) ∙ ap Ok (handled ∙ sym (ap (process_core stop) joins))
