-- What is held by a worker's routers once they have taken back what they can't send again.
use Rattle.std.proofs.Common.{◌≡◌, ◌⊎◌, ℕ, ◌<◌, ◌≤◌, ◌==◌, List, [], ◌∷◌, true, false, not, map, min, nat_lt, slice_get, Option, Some, None, Result, Ok, Err, refl, ap, sym, ◌∙◌, subst, inl, inr, arith, if◌then◌else◌}
use Rattle.std.proofs.lemmas.Bool.{cases_Bool, cases_eq, eq-eqb, eqb-true, false≢true, ltb-true}
use Rattle.std.specs.List.{list_any, reduce}
use Rattle.std.specs.Option.{IsSomeAnd}
use Rattle.tw_core.specs.declared.refusal.Refusal.{Refusal}
use Rattle.tw_core.specs.declared.refusal.Refusal.TheVariants.{NotMine}
use Rattle.tw_core.specs.Machine.{Core}
use Rattle.tw_core.specs.Steps.{from, with_release}
use Rattle.tw_event.specs.declared.event.Event.{Event}
use Rattle.tw_model.specs.Case.{Case, simulation}
use Rattle.tw_ordered.specs.Queue.{is_before}
use Rattle.tw_rule.proofs.Least.{events_told}
use Rattle.tw_shard.proofs.Shares.{listed}
use Rattle.tw_shard.specs.Roster.{has}
use Rattle.tw_shard.specs.Shard.{IsSameShare, Shard, owns, place, releasing, routers, shard_core}
use Rattle.tw_sim.proofs.Counts.{in_filter, one_self, times-filter-yes}
use Rattle.tw_sim.specs.Simulation.{IsLawful, Simulation, times}
use Rattle.tw_table.specs.Shares.{Share}
use Rattle.tw_workers.specs.Work.{AreAwaited, AreAwaitedFrom, IsAtWork, IsAwaited}
use Rattle.tw_workers.proofs.Commits.{behind}

-- for the routers that are not left, what is held may be sent again
abbrev pub AreReleased : List ℕ → ℕ → Shard → Type 0
AreReleased left stop s = (r : ℕ) → owns s r ≡ true → AreAwaitedFrom r stop s ⊎ ((k : ℕ) × (slice_get left k ≡ Some r))

pub all_to_release : (stop : ℕ) (s : Shard) → AreReleased (routers s) stop s
all_to_release stop s r mine = inr (place s r, listed s r mine)

-- none is left
pub all_released : (stop : ℕ) (s : Share) (left : List ℕ) → left ≡ [] → IsAtWork stop s → AreReleased left stop s.shard → AreAwaited stop s.shard
all_released stop s left none work done e held =
    elim (done e.src (work.place.held e held)) [
      | inl is ↦ is e held refl
      | inr at ↦ (let got : ◌≡◌ {A = Option ℕ} None (Some e.src) = ap (λ rs. slice_get rs at.0) (sym none) ∙ at.1 in absurd cc)
    ]

-- one router less is left: what is held for it may be sent again
pub awaited_more : (n stop : ℕ) (left rest : List ℕ) (s : Shard) → left ≡ n ∷ rest → AreReleased left stop s → AreAwaitedFrom n stop s → AreReleased rest stop s
awaited_more n stop left rest s is old now r mine =
    elim (cases_eq r n) [
      | inl here ↦ inl (subst (λ k. AreAwaitedFrom k stop s) (sym here) now)
      | inr other ↦ elim (old r mine) [
        | inl was ↦ inl was
        | inr at ↦ inr (behind n r rest at.0 (ap (λ rs. slice_get rs at.0) (sym is) ∙ at.1) other)
      ]
    ]

-- ---- a router whose next event may send again what is held for it

-- an event of a list that is for a router and before a limit
record IsEarly {S : Type 0} (m : Simulation S Event) (r limit : ℕ) (xs : List Event) (f : Event) : Type 0 where
  there : 0 < times m f xs
  for_it : f.dst ≡ r
  early : f.time < limit

module _ {S : Type 0} (m : Simulation S Event) (law : IsLawful m) (r limit : ℕ) where
  early_there : (xs : List Event) → list_any (is_before r limit) xs ≡ true → (f : Event) × IsEarly m r limit xs f
  early_there [] h = absurd (false≢true h)
  early_there (x ∷ xs) h =
      elim (cases_Bool (x.dst == r)) [
        | inl d ↦
            elim (cases_Bool (nat_lt x.time limit)) [
              | inl t ↦ (x, record { there = let self = one_self m law x in omega arith; for_it = eqb-true x.dst r d; early = ltb-true x.time limit t })
              | inr t ↦ later (early_there xs (rw (d, t) at h))
            ]
        | inr d ↦ later (early_there xs (rw d at h))
      ]
    where
      later : (f : Event) × IsEarly m r limit xs f → (f : Event) × IsEarly m r limit (x ∷ xs) f
      later found =
          let is = found.1 in
          (found.0, record { there = let there = is.there in omega arith; for_it = is.for_it; early = is.early })

-- what is held for it is not before the least of that
held_told : (r : ℕ) (s : Shard) → IsLawful (simulation s.terms.case) → (e : Event) → 0 < times (simulation s.terms.case) e s.held → e.src ≡ r
    → IsSomeAnd (reduce min (map (λ x. x.time) (from (simulation s.terms.case) r s.held))) (λ time. time ≤ e.time)
held_told r s law e held sender =
    let m = simulation s.terms.case in
    let there = times-filter-yes m law (λ x. x.src == r) e s.held (eq-eqb e.src r sender) in
    events_told m law (from m r s.held) e (omega arith)

pub none_awaited : (r stop : ℕ) (s : Shard) → IsLawful (simulation s.terms.case) → reduce min (map (λ x. x.time) (from (simulation s.terms.case) r s.held)) ≡ None
    → AreAwaitedFrom r stop s
none_awaited r stop s law none e held sender = absurd (subst (λ o. IsSomeAnd o (λ time. time ≤ e.time)) none (held_told r s law e held sender))

pub early_awaited : (r stop least limit : ℕ) (s : Shard) → IsLawful (simulation s.terms.case)
    → reduce min (map (λ x. x.time) (from (simulation s.terms.case) r s.held)) ≡ Some least → limit ≤ least → limit ≤ stop
    → list_any (is_before r limit) s.pending ≡ true → AreAwaitedFrom r stop s
early_awaited r stop least limit s law told sooner until found e held sender =
    let m = simulation s.terms.case in
    let late : least ≤ e.time = subst (λ o. IsSomeAnd o (λ time. time ≤ e.time)) told (held_told r s law e held sender) in
    let cause = early_there m law r limit s.pending found in
    let is = cause.1 in
    let early = is.early in
    record { cause = cause.0; pending = is.there; sender = is.for_it ∙ sym sender; sooner = omega arith; until = omega arith }

-- ---- a router takes back what is held for it

module _ (n stop : ℕ) (s t : Shard) (law : IsLawful (simulation s.terms.case)) (same : IsSameShare s t) (own : owns s n ≡ true)
    (done : releasing 0 s n ≡ Ok (shard_core 0 t)) where
  released : shard_core 0 t ≡ with_release (simulation s.terms.case) (shard_core 0 s) n
  released =
      let less : Result (Core Event) Refusal = Ok (with_release (simulation s.terms.case) (shard_core 0 s) n) in
      let at_own : less ≡ Ok (shard_core 0 t) = sym (ap (λ b. if b then less else Err NotMine) own) ∙ done in
      cc at_own

  -- what is held still was held, and others sent it
  held_before : (e : Event) → 0 < times (simulation t.terms.case) e t.held → (not (e.src == n) ≡ true) × (0 < times (simulation s.terms.case) e s.held)
  held_before e held =
      let m = simulation s.terms.case in
      let there = subst (λ (xs : List Event). 0 < times m e xs) (ap (λ C. C.held) released) (subst (λ (c : Case). 0 < times (simulation c) e t.held) (ap (λ x. x.case) same.terms) held) in
      in_filter m law (λ x. not (x.src == n)) e s.held there

  awaited_still : (e : Event) → IsAwaited stop s e → IsAwaited stop t e
  awaited_still e is = record {
    cause = is.cause;
    pending = subst (λ (c : Case). 0 < times (simulation c) is.cause t.pending) (sym (ap (λ x. x.case) same.terms))
        (subst (λ (xs : List Event). 0 < times (simulation s.terms.case) is.cause xs) (sym (ap (λ C. C.pending) released)) is.pending);
    sender = is.sender;
    sooner = is.sooner;
    until = is.until;
  }

  -- nothing is held for it
  pub its_own : AreAwaitedFrom n stop t
  its_own e held sender =
      let other = (held_before e held).0 in
      let here : not (e.src == n) ≡ false = ap (λ b. not b) (eq-eqb e.src n sender) in
      absurd (cc (here, other))

  -- for the others all is as before
  pub from_still : (r : ℕ) → AreAwaitedFrom r stop s → AreAwaitedFrom r stop t
  from_still r was e held sender = awaited_still e (was e (held_before e held).1 sender)

-- one of those that are left has been seen to, and its shard has the routers that it had
pub released_more : (n stop : ℕ) (left rest : List ℕ) (s t : Shard) → routers t ≡ routers s → left ≡ n ∷ rest → AreReleased left stop s
    → AreAwaitedFrom n stop t → ((r : ℕ) → AreAwaitedFrom r stop s → AreAwaitedFrom r stop t) → AreReleased rest stop t
released_more n stop left rest s t same is old now others =
    awaited_more n stop left rest t is
    (λ r mine. elim (old r (ap (λ rs. has rs r) (sym same) ∙ mine)) [ inl was ↦ inl (others r was) | inr at ↦ inr at ])
    now
