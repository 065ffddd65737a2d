-- The machine as one worker's shard beside the rest of it.
use Rattle.std.proofs.Common.{◌≡◌, ℕ, zero, suc, ◌+◌, ◌<◌, ◌==◌, cond, List, [], ◌∷◌, ◌++◌, flat_map, length, set, get_or, length-set, refl, ap, sym, ◌∙◌, inl, inr, arith}
use Rattle.std.proofs.Math.Path.{fun_ext}
use Rattle.std.proofs.lemmas.Bool.{cases_eq, eq-eqb, eqb-true, ne_eqb}
use Rattle.std.proofs.lemmas.List.{get_or-set_other, get_or-set_same}
use Rattle.tw_event.specs.declared.event.Event.{Event}
use Rattle.tw_event.specs.Order.{event_same}
use Rattle.tw_model.specs.Case.{Case, IsCase, simulation}
use Rattle.tw_model.proofs.Lawful.{lawful}
use Rattle.tw_shard.specs.Shard.{Shard, shard_core}
use Rattle.tw_sim.specs.declared.machine.Signed.{Signed}
use Rattle.tw_sim.specs.Owners.{owner}
use Rattle.tw_sim.specs.Ordered.{times}
use Rattle.tw_sim.proofs.Counts.{none, times-append}
use Rattle.tw_warp.specs.Warp.{IsShare, Warp, no_shard, shard_at, warp_core, worker_with}
use Rattle.tw_warp.proofs.InOrder.{same_order}
use Rattle.tw_warp.proofs.Whole.{IsApart, Rest, whole}

-- a list without its element at place k
abbrev pub others : {A : Type 0} → List A → ℕ → List A
others [] k = []
others (x ∷ xs) zero = xs
others (x ∷ xs) (suc k) = x ∷ others xs k

-- the rest of the machine beside worker k
abbrev pub rest : Warp → ℕ → Rest Event
rest w k = record {
  mine = λ r. worker_with w r == k;
  history = (warp_core w).history;
  done = (warp_core w).done;
  past = (warp_core w).past;
  room = (warp_core w).room;
  pending = flat_map (λ s. s.pending) (others w.shards k);
  kept = flat_map (λ s. s.kept) (others w.shards k);
  held = flat_map (λ s. s.held) (others w.shards k);
}

-- with another shard of worker k, and other messages on their way
abbrev pub with_shard : Warp → ℕ → Shard → List (Signed Event) → Warp
with_shard w k s flight = record w { shards = set w.shards k s; flight = flight }

module _ (case : Case) (is : IsCase case) where
  count : (e : Event) (xs ys : List Event) → times event_same e (xs ++ ys) ≡ times event_same e xs + times event_same e ys
  count e xs ys = times-append (simulation case) e xs ys

  -- how often an event stands in a list of all shards, of which one is another
  pub times-others : (e : Event) (read : Shard → List Event) (ss : List Shard) (k : ℕ) (s : Shard) → k < length ss
      → times event_same e (flat_map read (set ss k s)) ≡ times event_same e (flat_map read (others ss k) ++ read s)
  times-others e read [] k s within = absurd (omega arith)
  times-others e read (x ∷ ss) zero s within =
      let a : times event_same e (flat_map read (set (x ∷ ss) zero s)) ≡ times event_same e (read s) + times event_same e (flat_map read ss) = count e (read s) (flat_map read ss) in
      let b : times event_same e (flat_map read (others (x ∷ ss) zero) ++ read s) ≡ times event_same e (flat_map read ss) + times event_same e (read s) = count e (flat_map read ss) (read s) in
      omega arith
  times-others e read (x ∷ ss) (suc k) s within =
      let a : times event_same e (flat_map read (set (x ∷ ss) (suc k) s)) ≡ times event_same e (read x) + times event_same e (flat_map read (set ss k s)) =
      count e (read x) (flat_map read (set ss k s)) in
      let b = times-others e read ss k s (omega arith) in
      let c = count e (flat_map read (others ss k)) (read s) in
      let d : times event_same e (flat_map read (others (x ∷ ss) (suc k)) ++ read s) ≡ times event_same e (read x ++ flat_map read (others ss k)) + times event_same e (read s) =
      count e (read x ++ flat_map read (others ss k)) (read s) in
      let f = count e (read x) (flat_map read (others ss k)) in
      omega arith

  -- what stands in the others stands in one of them
  pub in_others : (e : Event) (read : Shard → List Event) (nobody : Shard) (ss : List Shard) (k : ℕ) → 0 < times event_same e (flat_map read (others ss k))
      → (j : ℕ) × (j < length ss) × (j ≡ k → ⊥) × (0 < times event_same e (read (get_or ss j nobody)))
  in_others e read nobody [] k some = let none : 0 < 0 = some in absurd (omega arith)
  in_others e read nobody (x ∷ ss) zero some =
      let at = in_all ss some in (suc at.0, (let h = at.1 in omega arith), (λ same. omega arith), at.2) where
        in_all : (ss : List Shard) → 0 < times event_same e (flat_map read ss) → (j : ℕ) × (j < length ss) × (0 < times event_same e (read (get_or ss j nobody)))
        in_all [] some = let none : 0 < 0 = some in absurd (omega arith)
        in_all (y ∷ ss) some =
            elim (cases_eq (times event_same e (read y)) 0) [
              | inl absent ↦ (let a = count e (read y) (flat_map read ss) in let at = in_all ss (omega arith) in (suc at.0, (let h = at.1 in omega arith), at.2))
              | inr there ↦ (0, omega arith, grind arith)
            ]
  in_others e read nobody (x ∷ ss) (suc k) some =
      elim (cases_eq (times event_same e (read x)) 0) [
        | inl absent ↦ (
            let a = count e (read x) (flat_map read (others ss k)) in
            let at = in_others e read nobody ss k (omega arith) in
            (suc at.0, (let h = at.1 in omega arith), (λ same. at.2 (omega arith)), at.3))
        | inr there ↦ (0, omega arith, (λ same. omega arith), grind arith)
      ]

-- putting what is there
pub set_same : {A : Type 0} (xs : List A) (k : ℕ) (d : A) → k < length xs → set xs k (get_or xs k d) ≡ xs
set_same [] k d within = absurd (omega arith)
set_same (x ∷ xs) zero d within = refl
set_same (x ∷ xs) (suc k) d within = ap (λ ys. x ∷ ys) (set_same xs k d (omega arith))

module _ (w : Warp) (is : IsCase w.case) (k : ℕ) (within : k < length w.shards) where
  -- what is read of each router's shard is put at this worker's
  read_with : {A : Type 0} (read : Shard → ℕ → A) (s : Shard) (flight : List (Signed Event))
      → ◌≡◌ {A = ℕ → A} (λ r. read (shard_at (with_shard w k s flight) (worker_with (with_shard w k s flight) r)) r)
      (λ r. cond (worker_with w r == k) (read s r) (read (shard_at w (worker_with w r)) r))
  read_with read s flight =
      fun_ext (λ r.
      let same : worker_with (with_shard w k s flight) r ≡ worker_with w r = ap (λ n. owner n r) (length-set w.shards k s) in
      ap (λ j. read (get_or (set w.shards k s) j no_shard) r) same
      ∙ elim (cases_eq (worker_with w r) k) [
        | inl here ↦ rw (eq-eqb (worker_with w r) k here) (ap (λ t. read t r) (ap (λ j. get_or (set w.shards k s) j no_shard) here ∙ get_or-set_same w.shards k s no_shard within))
        | inr other ↦ rw (ne_eqb (worker_with w r) k other) (ap (λ t. read t r) (get_or-set_other w.shards k (worker_with w r) s no_shard other))
      ])

  -- the machine with another shard of this worker is that shard beside the rest
  pub joined : (s : Shard) (flight : List (Signed Event)) → s.bound ≡ w.bound → s.terms.cancel ≡ w.cancel
      → warp_core (with_shard w k s flight) ≡ whole (simulation w.case) (rest w k) (record (shard_core w.stop s) { flight = flight })
  joined s flight bound cancel =
      let m = simulation w.case in
      let law = lawful w.case is in
      λ i. record {
        history = read_with (λ s r. (shard_core w.stop s).history r) s flight i;
        pending = same_order m law (flat_map (λ s. s.pending) (set w.shards k s)) (flat_map (λ s. s.pending) (others w.shards k) ++ s.pending)
            (λ e. times-others w.case is e (λ s. s.pending) w.shards k s within) i;
        kept = same_order m law (flat_map (λ s. s.kept) (set w.shards k s)) (flat_map (λ s. s.kept) (others w.shards k) ++ s.kept)
            (λ e. times-others w.case is e (λ s. s.kept) w.shards k s within) i;
        flight = flight;
        held = same_order m law (flat_map (λ s. s.held) (set w.shards k s)) (flat_map (λ s. s.held) (others w.shards k) ++ s.held)
            (λ e. times-others w.case is e (λ s. s.held) w.shards k s within) i;
        done = read_with (λ s r. (shard_core w.stop s).done r) s flight i;
        past = read_with (λ s r. (shard_core w.stop s).past r) s flight i;
        room = read_with (λ s r. (shard_core w.stop s).room r) s flight i;
        bound = sym bound i;
        stop = w.stop;
        cancel = sym cancel i;
      }

  -- and so is the machine as it stands
  pub joined_now : (shard_at w k).bound ≡ w.bound → (shard_at w k).terms.cancel ≡ w.cancel
      → warp_core w ≡ whole (simulation w.case) (rest w k) (record (shard_core w.stop (shard_at w k)) { flight = w.flight })
  joined_now bound cancel = ap (λ shards. warp_core (record w { shards = shards })) (sym (set_same w.shards k no_shard within)) ∙ joined (shard_at w k) w.flight bound cancel

  -- nothing of the rest waits for this worker's routers, or was sent by them and is held
  pub rest_apart : ((j : ℕ) → j < length w.shards → IsShare w j (shard_at w j)) → IsApart (simulation w.case) (rest w k)
  rest_apart shares = record {
    pending = λ e mine. none (times event_same e (rest w k).pending) (λ some.
        let at = in_others w.case is e (λ s. s.pending) no_shard w.shards k some in
        let count = at.3 in
        let theirs = (shares at.0 at.1).own.waiting e (omega arith) in
        at.2 (sym (eqb-true (worker_with w e.dst) at.0 theirs) ∙ eqb-true (worker_with w e.dst) k mine));
    kept = λ e mine. none (times event_same e (rest w k).kept) (λ some.
        let at = in_others w.case is e (λ s. s.kept) no_shard w.shards k some in
        let count = at.3 in
        let theirs = (shares at.0 at.1).own.waiting e (omega arith) in
        at.2 (sym (eqb-true (worker_with w e.dst) at.0 theirs) ∙ eqb-true (worker_with w e.dst) k mine));
    held = λ e mine. none (times event_same e (rest w k).held) (λ some.
        let at = in_others w.case is e (λ s. s.held) no_shard w.shards k some in
        let count = at.3 in
        let theirs = (shares at.0 at.1).own.held e (omega arith) in
        at.2 (sym (eqb-true (worker_with w e.src) at.0 theirs) ∙ eqb-true (worker_with w e.src) k mine));
  }
