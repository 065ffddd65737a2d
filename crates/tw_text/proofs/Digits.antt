-- One digit more at the front of a text.
use Rattle.std.proofs.Common.{◌≡◌, ℕ, ◌+◌, ◌-◌, ◌*◌, ◌^◌, ◌<◌, ◌≤◌, true, List, length, take, get_or, refl, sym, ap, ◌∙◌, add-one, arith, pow-add}
use Rattle.std.proofs.Math.Nat.{mul-le-mul_left, one-le-pow, pow-suc}
use Rattle.std.proofs.lemmas.Bool.Decides.{nat_tests}
use Rattle.std.proofs.lemmas.Int.Digits.{digits_value_more}
use Rattle.std.proofs.lemmas.List.Folds.{list_all_more}
use Rattle.std.proofs.lemmas.Str.{digit_value_digit}
use Rattle.std.specs.Char.{digit_value, is_ascii_digit}
use Rattle.std.specs.List.{list_all}
use Rattle.std.specs.Str.Parse.{digits_value}

-- the digits at the front, and what they say
pub record AreDigits (text : List ℕ) (end value : ℕ) : Type 0 where
  pub bound : value < 10 ^ end
  pub value_is : value ≡ digits_value 10 (take end text)
  pub digits : list_all is_ascii_digit (take end text) ≡ true

digit_is : (c : ℕ) → is_ascii_digit c ≡ true → digit_value c + 48 ≡ c
digit_is c h = digit_value_digit c (grind (arith, nat_tests), grind (arith, nat_tests))

small : (c : ℕ) → is_ascii_digit c ≡ true → c ≤ 57
small c h = grind (arith, nat_tests)

pub digit_more : (text : List ℕ) (end value step : ℕ) → end < length text → is_ascii_digit (get_or text end 0) ≡ true → step ≡ get_or text end 0 - 48
    → AreDigits text end value → AreDigits text (end + 1) (value * 10 + step)
digit_more text end value step less digit is h =
    let c = get_or text end 0 in
    let d = digit_is c digit in
    let most = small c digit in
    let p = pow-suc 10 end in
    let next = ap (λ n. 10 ^ n) (add-one end) in
    let bound = h.bound in
    let same : step ≡ digit_value c = omega arith in
    record {
      bound = omega arith;
      value_is = ap (λ n. n * 10 + step) h.value_is ∙ (ap (λ s. digits_value 10 (take end text) * 10 + s) same ∙ sym (digits_value_more 10 text end less));
      digits = list_all_more is_ascii_digit text end 0 less ∙ rw (h.digits, digit) refl;
    }

-- eight digits say less than a hundred million
pub eight : (text : List ℕ) (end value : ℕ) → AreDigits text end value → end ≤ 8 → value < 100000000
eight text end value h most =
    let k = 8 - end in
    let bound = h.bound in
    let parts : 10 ^ (end + k) ≡ 10 ^ end * 10 ^ k = pow-add 10 end k in
    let one : 1 ≤ 10 ^ k = one-le-pow k 10 (omega arith) in
    let more : 10 ^ end * 1 ≤ 10 ^ end * 10 ^ k = mul-le-mul_left (10 ^ end) one in
    let sum : end + k ≡ 8 = omega arith in
    let whole : 10 ^ (end + k) ≡ 100000000 = ap (λ n. 10 ^ n) sum in
    omega arith
