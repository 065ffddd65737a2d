-- What elimination leaves: every stable assignment, and where it leaves no choice exactly one.
use Rattle.std.proofs.Common.{arith, ◌≡◌, ℕ, suc, zero, ◌<◌, refl, sym, ◌∙◌, nat_lt, if◌then◌else◌}
use Rattle.std.proofs.lemmas.Bool.{cases_Bool, ltb-true, lt-ltb}
use Rattle.tw_event.specs.declared.event.PathNo.{PathNo}
use Rattle.tw_model.specs.Net.{Net, empty_path}
use Rattle.tw_model.specs.State.{State}
use Rattle.tw_model.specs.Quiet.{stable_path}
use Rattle.tw_policy.specs.Elimination.{IsSolvedIn, MayUse}
use Rattle.tw_policy.specs.Stable.{IsStableAssignment}
use Rattle.tw_policy.proofs.Choices.{stable_agree}

module _ (net : Net) (states : ℕ → State) where
  -- what is stable everywhere is never eliminated
  pub stable_stays : (ribs : ℕ → PathNo) → ((v : ℕ) → ribs v ≡ stable_path net ribs v (states v)) → (n v : ℕ) → MayUse net states n v (ribs v)
  stable_stays ribs stable zero v = tt
  stable_stays ribs stable (suc n) v = (ribs, (λ w. stable_stays ribs stable n w), stable v)

  -- an assignment, and the best path where there is no router
  abbrev pub everywhere : (ℕ → PathNo) → ℕ → PathNo
  everywhere ribs v = if nat_lt v net.nodes then ribs v else stable_path net ribs v (states v)

  pub everywhere_is : (ribs : ℕ → PathNo) (v : ℕ) → v < net.nodes → everywhere ribs v ≡ ribs v
  everywhere_is ribs v here = rw (lt-ltb v net.nodes here) refl

  -- what is stable at the routers is stable everywhere
  pub stable_everywhere : (ribs : ℕ → PathNo) → IsStableAssignment net states ribs → (v : ℕ)
      → everywhere ribs v ≡ stable_path net (everywhere ribs) v (states v)
  stable_everywhere ribs stable v = grind (arith, stable_agree, everywhere_is, cases_Bool, nat_lt, ltb-true)

  -- what is stable is never eliminated
  pub stable_remains : (ribs : ℕ → PathNo) → IsStableAssignment net states ribs → (n v : ℕ) → MayUse net states n v (everywhere ribs v)
  stable_remains ribs stable = stable_stays (everywhere ribs) (stable_everywhere ribs stable)

  pub unique : (n : ℕ) → IsSolvedIn net states n → (one two : ℕ → PathNo) → IsStableAssignment net states one → IsStableAssignment net states two
      → (v : ℕ) → v < net.nodes → one v ≡ two v
  unique n solved one two first second v here =
      sym (everywhere_is one v here)
      ∙ (solved v here (everywhere one v) (everywhere two v) (stable_remains one first n v) (stable_remains two second n v) ∙ everywhere_is two v here)

  -- some paths that so many rounds leave
  abbrev pub round : ℕ → ℕ → PathNo
  round zero v = empty_path
  round (suc n) v = stable_path net (round n) v (states v)

  pub round_may : (n v : ℕ) → MayUse net states n v (round n v)
  round_may zero v = tt
  round_may (suc n) v = (round n, (λ w. round_may n w), refl)

  -- what one round more leaves was left before
  pub may_fewer : (n v : ℕ) (q : PathNo) → MayUse net states (suc n) v q → MayUse net states n v q
  may_fewer zero v q may = tt
  may_fewer (suc n) v q may = (may.0, (λ w. may_fewer n w (may.0 w) (may.1 w)), may.2)

  -- where elimination leaves no choice, what is left is stable
  pub exists : (n : ℕ) → IsSolvedIn net states n → IsStableAssignment net states (round n)
  exists n solved v here = solved v here (round n v) (round (suc n) v) (round_may n v) (may_fewer n v (round (suc n) v) (round_may (suc n) v))
