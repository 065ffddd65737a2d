-- Guesses of the slots of neighbours.
use Rattle.std.proofs.Common.{◌≡◌, ◌≢◌, ℕ, ◌<◌, ◌%◌, List, length, get_or, set, arith, ap, subst, sym, ◌∙◌, inl, inr, replicate}
use Rattle.std.proofs.lemmas.Bool.{cases_eq, cases_lt}
use Rattle.std.proofs.lemmas.List.{get_or-replicate, get_or-set_other, get_or-set_same, get_or_default, get_or_past, length-replicate}
use Rattle.tw_instance.specs.Guesses.{AreGuesses, IsGuess}
use Rattle.tw_instance.specs.declared.peers.Guess.{Guess}

-- one more guess for its place leaves guesses
pub guesses_with : (row : List ℕ) (gs : List Guess) (at : ℕ) (new : Guess) → at < length gs → AreGuesses row gs → IsGuess row at new → AreGuesses row (set gs at new)
guesses_with row gs at new low all is place g below e =
    elim (cases_eq place at) [
      | inl here ↦ subst (IsGuess row place) (sym (e ∙ (ap (λ k. get_or (set gs at new) k g) here ∙ get_or-set_same gs at new g low))) (subst (λ k. IsGuess row k new) (sym here) is)
      | inr ne ↦ all place g below (e ∙ get_or-set_other gs at place new g ne)
    ]

-- a number with another remainder than that of its place is a guess of any row
pub other_guess : (row : List ℕ) (place : ℕ) (g : Guess) → g.peer % 64 ≢ place → IsGuess row place g
other_guess row place g ne same = absurd (ne same)

-- 1 at place 0 and 0 elsewhere are guesses of any row
pub no_guesses : (row : List ℕ) (zero one : Guess) → zero.peer ≡ 0 → one.peer ≡ 1 → AreGuesses row (set (replicate 64 zero) 0 one)
no_guesses row zero one z o place g below e =
    elim (cases_eq place 0) [
      | inl here ↦ (
          let is : g ≡ one = e ∙ (ap (λ k. get_or (set (replicate 64 zero) 0 one) k g) here ∙ get_or-set_same (replicate 64 zero) 0 one g (let n = length-replicate 64 zero in omega arith)) in
          other_guess row place g (λ same. let p = ap (λ x. x.peer) is in omega arith))
      | inr ne ↦ (
          let is : g ≡ zero = e ∙ (get_or-set_other (replicate 64 zero) 0 place one g ne ∙ get_or-replicate 64 place zero g below) in
          other_guess row place g (λ same. let p = ap (λ x. x.peer) is in ne (omega arith)))
    ]

-- what stands at the place of a number's remainder and has that number is in the row at that slot
pub guessed : (row : List ℕ) (gs : List Guess) (d : Guess) (w : ℕ) → AreGuesses row gs → (get_or gs (w % 64) d).peer ≡ w
    → ((get_or gs (w % 64) d).slot < length row) × (get_or row (get_or gs (w % 64) d).slot 0 ≡ w)
guessed row gs d w all is =
    let place = w % 64 in
    let g = get_or gs place d in
    let stands : g ≡ get_or gs place g = elim (cases_lt place (length gs)) [
      | inl low ↦ get_or_default gs place d g low
      | inr past ↦ sym (get_or_past gs place g past)
    ] in
    let here = all place g (omega arith) stands (ap (λ n. n % 64) is) in
    (here.0, here.1 ∙ is)
