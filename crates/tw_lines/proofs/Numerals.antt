-- The words that are numbers are those that `decimal` writes of numbers of at most ten digits.
use Rattle.std.proofs.Common.{◌≡◌, ℕ, ◌^◌, ◌<◌, ◌≤◌, ◌==◌, nat_lt, nat_le, true, false, not, ◌&&◌, List, length, slice_index, get_or, decimal, refl, ap, sym, inl, inr, arith, rules}
use Rattle.std.proofs.lemmas.Bool.{cases_lt, and_parts, not-true}
use Rattle.std.proofs.lemmas.Bool.Decides.{nat_tests}
use Rattle.std.proofs.lemmas.Fmt.{decimal-digits_value, decimal_digit, decimal_nonempty, digits_decimal, digits_value-decimal, first_decimal, length-decimal-le}
use Rattle.std.proofs.lemmas.Str.Parse.{IsNumeralModel, digits_value_short, numerals_by_value}
use Rattle.std.specs.Char.{is_ascii_digit}
use Rattle.std.specs.List.{list_all}
use Rattle.std.specs.Str.Parse.{digits_value}
use Rattle.tw_model.specs.declared.limits.TheConstants.{MOST_DIGITS}
use Rattle.tw_lines.specs.Words.{is_number}

own : IsNumeralModel (λ ds. list_all is_ascii_digit ds ≡ true) (digits_value 10)
own = numerals_by_value _ (search rules)

-- what a word of the right form says
record HasForm (w : List ℕ) : Type 0 where
  some : 0 < length w
  most : length w ≤ MOST_DIGITS
  first : get_or w 0 0 ≡ 48 → length w ≡ 1
  digits : list_all is_ascii_digit w ≡ true

only_zero : (w : List ℕ) → get_or w 0 0 ≡ 48 → (nat_lt 1 (length w) && (slice_index w 0 == 48)) ≡ false → 0 < length w → length w ≡ 1
only_zero w z f some = grind (arith, nat_tests)

no_zero : (n : ℕ) → n < 2 ^ 64 → (nat_lt 1 (length (decimal n)) && (slice_index (decimal n) 0 == 48)) ≡ false
no_zero n h =
    elim (cases_lt 0 n) [
      | inl positive ↦ (let first = first_decimal n positive h in grind (arith, nat_tests))
      | inr zero ↦ (let one = ap length (decimal_digit n (omega arith)) in grind (arith, nat_tests))
    ]

form_of : (w : List ℕ) → is_number w ≡ true → HasForm w
form_of w h =
    let a = and_parts (not (length w == 0) && nat_le (length w) MOST_DIGITS && not (nat_lt 1 (length w) && (slice_index w 0 == 48))) (list_all is_ascii_digit w) h in
    let b = and_parts (not (length w == 0) && nat_le (length w) MOST_DIGITS) (not (nat_lt 1 (length w) && (slice_index w 0 == 48))) a.0 in
    let c = and_parts (not (length w == 0)) (nat_le (length w) MOST_DIGITS) b.0 in
    let e = not-true (length w == 0) c.0 in
    let f = not-true (nat_lt 1 (length w) && (slice_index w 0 == 48)) b.1 in
    record { some = grind (arith, nat_tests); most = grind (arith, nat_tests); first = λ z. only_zero w z f (grind (arith, nat_tests)); digits = a.1 }

pub number_is : (w : List ℕ) → is_number w ≡ true → w ≡ decimal (digits_value 10 w)
number_is w h =
    let form = form_of w h in
    let small = digits_value_short own w MOST_DIGITS form.digits form.most in
    let lt : digits_value 10 w < 2 ^ 64 = omega (arith, small) in
    sym (decimal-digits_value own w form.digits form.some form.first lt)

pub number_short : (w : List ℕ) → is_number w ≡ true → digits_value 10 w < 10 ^ MOST_DIGITS
number_short w h = let form = form_of w h in digits_value_short own w MOST_DIGITS form.digits form.most

pub decimal-form : (n : ℕ) → n < 10 ^ MOST_DIGITS → is_number (decimal n) ≡ true
decimal-form n h =
    let lt : n < 2 ^ 64 = omega arith in
    let some = decimal_nonempty n lt in
    let most = length-decimal-le MOST_DIGITS n (omega arith) h lt in
    let digits = digits_decimal own n lt in
    let a : (length (decimal n) == 0) ≡ false = grind (arith, nat_tests) in
    let b : nat_le (length (decimal n)) MOST_DIGITS ≡ true = grind (arith, nat_tests) in
    rw (a, b, no_zero n lt, digits) refl

pub value-decimal : (n : ℕ) → n < 10 ^ MOST_DIGITS → digits_value 10 (decimal n) ≡ n
value-decimal n h = let lt : n < 2 ^ 64 = omega arith in digits_value-decimal own n lt

pub decimal-digits : (n : ℕ) → n < 10 ^ MOST_DIGITS → list_all is_ascii_digit (decimal n) ≡ true
decimal-digits n h = digits_decimal own n (omega arith)

pub decimal-some : (n : ℕ) → n < 10 ^ MOST_DIGITS → (length (decimal n) == 0) ≡ false
decimal-some n h = let lt : n < 2 ^ 64 = omega arith in let some = decimal_nonempty n lt in grind (arith, nat_tests)
