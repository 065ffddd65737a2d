-- What is noted of each router, once one more event is handled.
use Rattle.std.proofs.Common.{◌≡◌, ℕ, ◌<◌, ◌==◌, Bool, List, [], ◌∷◌, ◌++◌, map, replicate, reverse, set, get_or, refl, ap, sym, ◌∙◌, subst, inl, inr, arith, length-set}
use Rattle.std.specs.List.{range_with_len}
use Rattle.std.proofs.lemmas.Bool.{cases_Bool, cases_eq, eq-eqb, ne_eqb}
use Rattle.std.proofs.lemmas.List.{append-nil, ext_get_or, get_or-set_other, get_or-set_same}
use Rattle.std.proofs.lemmas.List.Elements.{filter-append}
use Rattle.std.proofs.lemmas.List.FromFn.{get_or-map-range_with_len, length-map-range_with_len, length-range_with_len}
use Rattle.std.proofs.lemmas.Simd.{splat_is_map}
use Rattle.tw_event.specs.declared.event.Event.{Event}
use Rattle.tw_model.specs.Case.{Case, simulation}
use Rattle.tw_model.specs.Quiet.{changes}
use Rattle.tw_sim.specs.Simulation.{only}
use Rattle.tw_seq.specs.Traced.{handled_by, logs_after, no_trace, noted, push_at, trace_after, traces_after}
use Rattle.tw_seq.proofs.Steps.{reverse-push}

-- of a list with an item for each number, one is exchanged, and the others are as before
set_one : {A : Type 0} (f g : ℕ → A) (n r : ℕ) (new d : A) → r < n → new ≡ g r → ((q : ℕ) → (r ≡ q → ⊥) → g q ≡ f q)
    → set (map f (range_with_len 0 n)) r new ≡ map g (range_with_len 0 n)
set_one f g n r new d within own others =
    let old = map f (range_with_len 0 n) in
    let before = length-map-range_with_len f 0 n in
    let same_length = length-set old r new ∙ (before ∙ sym (length-map-range_with_len g 0 n)) in
    ext_get_or d (set old r new) (map g (range_with_len 0 n)) same_length (λ q below.
    let count = length-set old r new in
    let there : q < n = omega arith in
    sym (get_or-map-range_with_len g 0 n q q d there (omega arith) ∙ elim (cases_eq r q) [
      | inl is ↦ subst (λ k. g k ≡ get_or (set old r new) k d) is (sym (get_or-set_same old r new d (omega arith) ∙ own))
      | inr apart ↦
          others q apart ∙ sym (get_or-set_other old r q new d (λ is. apart (sym is)) ∙ get_or-map-range_with_len f 0 n q q d there (omega arith))
    ]))

-- what is the same for each number
same_for_each : {A : Type 0} (n : ℕ) (x : A) → replicate n x ≡ map (λ r. x) (range_with_len 0 n)
same_for_each n x = splat_is_map (range_with_len 0 n) n x (length-range_with_len 0 n)

-- routers that have handled nothing
pub opening_traces_are : (case : Case) (n : ℕ) → n ≡ case.net.nodes → replicate n no_trace ≡ traces_after case []
opening_traces_are case n is = ap (λ k. replicate k no_trace) is ∙ same_for_each case.net.nodes no_trace

pub opening_logs_are : (case : Case) (n : ℕ) → n ≡ case.net.nodes → replicate n [] ≡ logs_after case []
opening_logs_are case n is = ap (λ k. replicate k []) is ∙ same_for_each case.net.nodes []

-- of a router's events all are its own
only_twice : (case : Case) (r : ℕ) (xs : List Event) → only (simulation case) r (only (simulation case) r xs) ≡ only (simulation case) r xs
only_twice case r [] = refl
only_twice case r (x ∷ xs) =
    elim (cases_Bool (x.dst == r)) [
      | inl own ↦ rw own (rw own (ap (λ l. x ∷ l) (only_twice case r xs)))
      | inr others ↦ rw others (only_twice case r xs)
    ]

module _ (case : Case) (events : List Event) (e : Event) where
  handled_own : handled_by case (events ++ e ∷ []) e.dst ≡ e ∷ handled_by case events e.dst
  handled_own = rw (reverse-push, eq-eqb e.dst e.dst refl)

  handled_other : (r : ℕ) → (e.dst ≡ r → ⊥) → handled_by case (events ++ e ∷ []) r ≡ handled_by case events r
  handled_other r apart = rw (reverse-push, ne_eqb e.dst r apart)

  -- whether an event changes a path is told by its router's own events
  changes_own : changes case e (handled_by case events e.dst) ≡ changes case e (reverse events)
  changes_own = rw (only_twice case e.dst (reverse events)) refl

  trace_own : (changed : Bool) → changed ≡ changes case e (reverse events) → noted (trace_after case events e.dst) e changed ≡ trace_after case (events ++ e ∷ []) e.dst
  trace_own changed is =
      let now : changed ≡ changes case e (handled_by case events e.dst) = is ∙ sym changes_own in
      rw (handled_own, now) refl

  trace_other : (r : ℕ) → (e.dst ≡ r → ⊥) → trace_after case (events ++ e ∷ []) r ≡ trace_after case events r
  trace_other r apart = rw (handled_other r apart) refl

  -- the traces afterwards
  pub next_traces : (changed : Bool) → changed ≡ changes case e (reverse events) → e.dst < case.net.nodes
      → set (traces_after case events) e.dst (noted (get_or (traces_after case events) e.dst no_trace) e changed) ≡ traces_after case (events ++ e ∷ [])
  next_traces changed is within =
      let old = get_or-map-range_with_len (trace_after case events) 0 case.net.nodes e.dst e.dst no_trace within (omega arith) in
      ap (λ trace. set (traces_after case events) e.dst (noted trace e changed)) old
      ∙ set_one (trace_after case events) (trace_after case (events ++ e ∷ [])) case.net.nodes e.dst _ no_trace within (trace_own changed is) trace_other

  log_own : only (simulation case) e.dst events ++ e ∷ [] ≡ only (simulation case) e.dst (events ++ e ∷ [])
  log_own = rw (filter-append, eq-eqb e.dst e.dst refl)

  log_other : (r : ℕ) → (e.dst ≡ r → ⊥) → only (simulation case) r (events ++ e ∷ []) ≡ only (simulation case) r events
  log_other r apart = rw (filter-append, ne_eqb e.dst r apart) (append-nil (only (simulation case) r events))

  -- the routers' events afterwards
  pub next_logs : e.dst < case.net.nodes → push_at (logs_after case events) e ≡ logs_after case (events ++ e ∷ [])
  next_logs within =
      let log = λ (r : ℕ). only (simulation case) r events in
      let old = get_or-map-range_with_len log 0 case.net.nodes e.dst e.dst [] within (omega arith) in
      ap (λ mine. set (logs_after case events) e.dst (mine ++ e ∷ [])) old
      ∙ set_one log (λ r. only (simulation case) r (events ++ e ∷ [])) case.net.nodes e.dst _ [] within log_own log_other
