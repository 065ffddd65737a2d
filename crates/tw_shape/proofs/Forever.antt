-- What is found first repeats for ever.
use Rattle.std.proofs.Common.{◌≡◌, ℕ, ◌+◌, ◌-◌, ◌*◌, ◌<◌, ◌≤◌, true, ap, sym, ◌∙◌, arith}
use Rattle.std.proofs.Math.Nat.{add-mul, mul-le-mul_right}
use Rattle.tw_model.specs.Case.{Case, IsCase}
use Rattle.tw_model.specs.Quiet.{IsQuiet}
use Rattle.tw_shape.specs.declared.verdict.Finding.{Finding}
use Rattle.tw_shape.specs.Shape.{Repeats, can_repeat, shape}
use Rattle.tw_shape.specs.Verdict.{IsFirst}
use Rattle.tw_shape.proofs.Repeating.{never_quiet, repeats}

module _ (case : Case) (is : IsCase case) (every n : ℕ) (f : Finding) (some : 0 < every) (first : IsFirst case every n f) where
  found_can : can_repeat (shape case f.from) ≡ true
  found_can = ap (λ t. can_repeat (shape case t)) first.from ∙ ap can_repeat first.again.same ∙ first.again.can

  found_end : f.from + f.period ≡ first.new * every
  found_end =
      let from = first.from in
      let period = first.period in
      let later = first.again.later in
      let parts = add-mul first.old (first.new - first.old) every in
      let whole : (first.old + (first.new - first.old)) * every ≡ first.new * every = ap (λ k. k * every) (omega arith) in
      omega arith

  found_again : shape case (f.from + f.period) ≡ shape case f.from
  found_again = ap (shape case) found_end ∙ sym first.again.same ∙ ap (shape case) (sym first.from)

  found_some : 0 < f.period
  found_some =
      let period = first.period in
      let later = first.again.later in
      let one : 1 ≤ first.new - first.old = omega arith in
      let times = mul-le-mul_right every one in
      omega arith

  pub found_repeats : Repeats case f.from f.period
  found_repeats = repeats case is f.from f.period found_can found_again

  pub found_never_quiet : (t : ℕ) → f.from ≤ t → IsQuiet case t → ⊥
  found_never_quiet = never_quiet case is f.from f.period found_can found_again found_some
