-- What follows where a call is refused, and where a visit is not.
use Rattle.std.proofs.Common.{ℕ, ◌≡◌, ◌<◌, ◌≤◌, Bool, false, Result, Ok, Err, inl, inr}
use Rattle.std.proofs.lemmas.Bool.{cases_Bool, cases_lt}
use Rattle.std.specs.Prelude.{◌↔◌, IsTrue, OnErr}
use Rattle.tw_exchange.specs.declared.visit.VisitFault.{VisitFault}
use Rattle.tw_exchange.specs.declared.visit.VisitFault.TheVariants.{Early, NoWorker}

-- it is of a worker, and nothing of it is early
pub may_go : {T : Type 0} (r : Result T VisitFault) (w n : ℕ) (early : Bool) → ((e : VisitFault) → r ≡ Err e → ⊥) → (r ≡ Err NoWorker ↔ (n ≤ w)) → (r ≡ Err Early ↔ ((w < n) × IsTrue early))
    → (w < n) × (early ≡ false)
may_go r w n early not no_worker is_early =
    elim (cases_lt w n) [
      | inl below ↦ (below, elim (cases_Bool early) [ inl soon ↦ absurd (not Early (is_early.1 (below, soon))) | inr late ↦ late ])
      | inr past ↦ absurd (not NoWorker (no_worker.1 past))
    ]

-- what holds anyway holds after an error
pub on_err : {T E : Type 0} (Q : Type 0) (r : Result T E) → Q → OnErr r Q
on_err Q (Ok x) q = tt
on_err Q (Err e) q = q
