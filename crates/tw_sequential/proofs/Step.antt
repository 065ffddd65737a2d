-- What handling the next event does to a run and to the states of its processes.
use Rattle.std.proofs.Common.{◌≡◌, ℕ, ◌+◌, ◌<◌, ◌≤◌, ◌++◌, true, List, [], ◌∷◌, Some, drop, length, set, slice_get, take, refl, ap, sym, subst, inl, inr, arith}
use Rattle.std.specs.declared.cmp.Ordering.{Ordering}
use Rattle.tw_process.specs.Behaviour.{Behaviour, simulation_of}
use Rattle.tw_process.specs.Parts.{Parts}
use Rattle.tw_sequential.specs.declared.limits.TheConstants.{MOST_EVENTS}
use Rattle.tw_sequential.specs.Run.{IsNext, IsNextRun, IsStuck, Run, run_after}
use Rattle.tw_sequential.specs.States.{AreStates, IsRunWith}
use Rattle.tw_sequential.proofs.Running.{is_next, kept_next, next_suits, stuck_at}
use Rattle.tw_sequential.proofs.States.{states_next, states_same, there}
use Rattle.tw_sim.specs.Seq.{insert_all}
use Rattle.tw_sim.specs.Simulation.{Simulation, IsLawful, only, state}

take_front : {A : Type 0} (ws ys : List A) → take (length ws) (ws ++ ys) ≡ ws
take_front [] ys = refl
take_front (w ∷ ws) ys = ap (λ l. w ∷ l) (take_front ws ys)

-- a vector with as many other items has these
pub other_items : {A : Type 0} (n : ℕ) (ws ys : List A) → length ws ≡ n → take n (ws ++ ys) ≡ ws
other_items n ws ys h = subst (λ k. take k (ws ++ ys) ≡ ws) h (take_front ws ys)

-- e is the next event of a run that is kept so
pub record IsReady {M T S E : Type 0} (m : Simulation S E) (is_state : ℕ → T → Type 0) (known : T → S) (model : M) (stop n : ℕ) (pending : List E) (states : List T) (e : E) : Type 0 where
  pub law : IsLawful m
  pub kept : IsRunWith m is_state known (run_after m model stop n pending) n states
  pub next : IsNext m (run_after m model stop n pending) e

-- of what its contract says of a run's next event
pub ready : {M T S E : Type 0} (parts : Parts E) (cmp : E → E → Ordering) (behaviour : M → Behaviour S E) (is_state : M → ℕ → T → Type 0) (known : T → S)
    {model : M} {stop n : ℕ} {pending : List E} {states : List T} {e : E} {run : Run M E} → IsLawful (simulation_of parts cmp (behaviour model))
    → IsRunWith (simulation_of parts cmp (behaviour model)) (is_state model) known (run_after (simulation_of parts cmp (behaviour model)) model stop n pending) n states
    → run_after (simulation_of parts cmp (behaviour model)) model stop n pending ≡ run → IsNext (simulation_of parts cmp (behaviour run.model)) run e
    → IsReady (simulation_of parts cmp (behaviour model)) (is_state model) known model stop n pending states e
ready parts cmp behaviour is_state known {e = e} law kept is next = record {
  law = law;
  kept = kept;
  next = subst (λ run. IsNext (simulation_of parts cmp (behaviour run.model)) run e) (sym is) next;
}

module _ {M T S E : Type 0} {m : Simulation S E} {is_state : ℕ → T → Type 0} {known : T → S} {model : M} {stop n : ℕ} {pending : List E} {states : List T} {e : E}
    (ready : IsReady m is_state known model stop n pending states e) where
  -- the run
  abbrev now : Run M E
  now = run_after m model stop n pending

  pub suits : m.suits e ≡ true
  suits = next_suits m ready.law now e ready.kept.begun ready.next

  pub within : m.dst e < length states
  within = let here = ready.law.receiver e suits in let count = ready.kept.are.count in omega arith

  -- it is before each time that the stop is not after
  pub early : (latest : ℕ) → stop ≤ latest → m.time e < latest
  early latest most = let soon = ready.next.2 in omega (arith, most)

  module _ (number : ℕ) (home : m.dst e ≡ number) where
    pub own : (s : T) → slice_get states number ≡ Some s → is_state number s
    own s h = (ready.kept.are.each number s h).0

    -- what its receiver knows
    is_known : (s : T) → slice_get states number ≡ Some s → known s ≡ state m (m.dst e) (only m (m.dst e) now.log)
    is_known s h = subst (λ r. known s ≡ state m r (only m r now.log)) (sym home) (ready.kept.are.each number s h).1

    -- it has handled the event
    abbrev pub IsDone : List T → List E → Type 0
    IsDone states' left =
        (before : T) → slice_get states number ≡ Some before → (after : T) × (states' ≡ set states number after) × is_state number after
        × (known after ≡ m.after (known before) e) × (left ≡ insert_all m (m.sends (known before) e) (drop 1 pending))

    receiver : (before : T) × (slice_get states number ≡ Some before)
    receiver = there states number (subst (λ r. r < length states) home within)

    pub done_next : (states' : List T) (left : List E) → IsDone states' left → IsNextRun m now (run_after m model stop (n + 1) left)
    done_next states' left done =
        let before = receiver in
        let k = done before.0 before.1 in
        is_next m is_state known model stop n pending states ready.kept e ready.next (known before.0) left (is_known before.0 before.1) k.4

    pub done_kept : (states' : List T) (left : List E) → IsDone states' left → IsRunWith m is_state known (run_after m model stop (n + 1) left) (n + 1) states'
    done_kept states' left done =
        let before = receiver in
        let k = done before.0 before.1 in
        kept_next m is_state known model stop n pending states ready.kept e ready.next (known before.0) left (is_known before.0 before.1) k.4 states'
        (subst (AreStates m is_state known (e ∷ now.log)) (sym k.1) (states_next m is_state known now.log states ready.kept.are number before.0 k.0 before.1 k.2 e home k.3))

    -- it is as it was
    abbrev pub IsSame : List T → Type 0
    IsSame states' =
        (before : T) → slice_get states number ≡ Some before → (after : T) × (states' ≡ set states number after) × is_state number after × (known after ≡ known before)

    pub same_kept : (states' : List T) (left : List E) → IsSame states' → left ≡ pending → IsRunWith m is_state known (run_after m model stop n left) n states'
    same_kept states' left same is =
        let before = receiver in
        let k = same before.0 before.1 in
        let are = subst (AreStates m is_state known now.log) (sym k.1) (states_same m is_state known now.log states ready.kept.are number before.0 k.0 before.1 k.2 k.3) in
        subst (λ xs. IsRunWith m is_state known (run_after m model stop n xs) n states') (sym is)
        (record { begun = ready.kept.begun; after = ready.kept.after; counted = ready.kept.counted; stop = ready.kept.stop; are = are })

    -- whether it is refused for a full counter
    abbrev pub IsTold : Type 0 → Type 0
    IsTold told = (before : T) → slice_get states number ≡ Some before → (told → m.full (known before) e ≡ true) × (m.full (known before) e ≡ true → told)

    pub told_stuck : (told : Type 0) → IsTold told → told → IsStuck m now
    told_stuck told is h =
        let before = receiver in
        (e, ready.next, inl (subst (λ s. m.full s e ≡ true) (is_known before.0 before.1) ((is before.0 before.1).0 h)))

    pub stuck_told : (told : Type 0) → IsTold told → n < MOST_EVENTS → IsStuck m now → told
    stuck_told told is few stuck =
        let before = receiver in
        elim (stuck_at m now e ready.next stuck) [
          | inl full ↦ (is before.0 before.1).1 (subst (λ s. m.full s e ≡ true) (sym (is_known before.0 before.1)) full)
          | inr many ↦ absurd (let counted = ready.kept.counted in omega arith)
        ]
