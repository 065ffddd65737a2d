-- Marks in words of bits.
use Rattle.std.proofs.Common.{◌≡◌, ◌≢◌, ◌≤◌, ◌<◌, ◌+◌, ◌-◌, ◌*◌, ◌/◌, ◌%◌, ◌^◌, ℕ, w64, List, length, get_or, set, ap, sym, ◌∙◌, inl, inr, arith, get_or-set_same, get_or-set_other}
use Rattle.std.specs.Int.{bit_at, trailing_zeros}
use Rattle.std.proofs.lemmas.Bool.{cases_eq, cases_lt}
use Rattle.std.proofs.lemmas.Nat.{shr-shr, shr_le}
use Rattle.std.proofs.lemmas.Nat.Bits.{bit_at-trailing_zeros, bit_at_above}
use Rattle.tw_calendar.specs.Turn.{IsFirstMark, mark_at}

-- the bits that go down
pub down : (n r i : ℕ) → bit_at (n / 2 ^ r) i ≡ bit_at n (r + i)
down n r i = ap (λ m. m % 2) (shr-shr n r i)

-- the lowest bit that is set, from a place on
module _ (word from : ℕ) (fits : word < 2 ^ 64) (some : 0 < word / 2 ^ from) where
  rest_fits : word / 2 ^ from < 2 ^ 64
  rest_fits =
      let low = shr_le word from in
      omega arith

  pub lowest_set : bit_at word (from + trailing_zeros w64 (word / 2 ^ from)) ≡ 1
  lowest_set = sym (down word from (trailing_zeros w64 (word / 2 ^ from))) ∙ (bit_at-trailing_zeros w64 (word / 2 ^ from) some rest_fits).1

  pub lowest_clear : (i : ℕ) → from ≤ i → i < from + trailing_zeros w64 (word / 2 ^ from) → bit_at word i ≡ 0
  lowest_clear i l m =
      let q : i ≡ from + (i - from) = omega arith in
      ap (bit_at word) q ∙ sym (down word from (i - from)) ∙ (bit_at-trailing_zeros w64 (word / 2 ^ from) some rest_fits).2 (i - from) (omega arith)

  pub lowest_within : from + trailing_zeros w64 (word / 2 ^ from) < 64
  lowest_within =
      elim (cases_lt (from + trailing_zeros w64 (word / 2 ^ from)) 64) [
        | inl l ↦ l
        | inr l ↦
            let z = bit_at_above word 64 (from + trailing_zeros w64 (word / 2 ^ from)) fits l in
            let c : 0 ≡ 1 = sym z ∙ lowest_set in
            absurd (omega (arith, c))
      ]

-- one word of marks becomes another
module _ (words : List ℕ) (place new : ℕ) (within : place / 64 < length words) where
  pub mark_same : (m : ℕ) → bit_at new (place % 64) ≡ m → mark_at (set words (place / 64) new) place ≡ m
  mark_same m h = ap (λ w. bit_at w (place % 64)) (get_or-set_same words (place / 64) new 0 within) ∙ h

  pub mark_other : ((i : ℕ) → i < 64 → i ≢ place % 64 → bit_at new i ≡ bit_at (get_or words (place / 64) 0) i) → (i : ℕ) → i ≢ place → mark_at (set words (place / 64) new) i ≡ mark_at words i
  mark_other others i apart =
      elim (cases_eq (i / 64) (place / 64)) [
        | inl q ↦
            ap (λ j. bit_at (get_or (set words (place / 64) new) j 0) (i % 64)) q ∙ ap (λ w. bit_at w (i % 64)) (get_or-set_same words (place / 64) new 0 within)
            ∙ others (i % 64) (omega arith) (λ r. apart (omega (arith, q, r))) ∙ ap (λ j. bit_at (get_or words j 0) (i % 64)) (sym q)
        | inr q ↦ ap (λ w. bit_at w (i % 64)) (get_or-set_other words (place / 64) (i / 64) new 0 q)
      ]

-- the first mark from a place on, word by word
-- none of the first places, counted from the begin of the first word, is marked
abbrev pub IsClear : List ℕ → ℕ → ℕ → ℕ → Type 0
IsClear words from base n = (k : ℕ) → k + from % 64 < n → k < 1024 → mark_at words ((base + 1 + k) % 1024) ≡ 0

module _ (words : List ℕ) (from base : ℕ) (same : (base + 1) % 1024 ≡ from) where
  module _ (step word value : ℕ) (word_is : word ≡ (from / 64 + step) % 16) (value_is : value ≡ get_or words word 0) where
    read : (k : ℕ) → step * 64 ≤ k + from % 64 → k + from % 64 < step * 64 + 64 → mark_at words ((base + 1 + k) % 1024) ≡ bit_at value (k + from % 64 - step * 64)
    read k l m =
        let q : (base + 1 + k) % 1024 / 64 ≡ word = omega (arith, same, word_is) in
        let r : (base + 1 + k) % 1024 % 64 ≡ k + from % 64 - step * 64 = omega (arith, same) in
        ap (λ j. bit_at (get_or words j 0) ((base + 1 + k) % 1024 % 64)) q ∙ ap (λ w. bit_at w ((base + 1 + k) % 1024 % 64)) (sym value_is) ∙ ap (bit_at value) r

    -- so many places of the next word aren't marked
    pub clear_more : (start n : ℕ) → n ≤ 64 → IsClear words from base (step * 64 + start) → ((i : ℕ) → start ≤ i → i < n → bit_at value i ≡ 0) → IsClear words from base (step * 64 + n)
    clear_more start n most before clear k l m =
        elim (cases_lt (k + from % 64) (step * 64 + start)) [
          | inl low ↦ before k low m
          | inr high ↦ read k (omega arith) (omega arith) ∙ clear (k + from % 64 - step * 64) (omega arith) (omega arith)
        ]

    pub first_found : (start place : ℕ) → place < 64 → from % 64 ≤ step * 64 + place → IsClear words from base (step * 64 + start) → ((i : ℕ) → start ≤ i → i < place → bit_at value i ≡ 0) → bit_at value place ≡ 1
        → IsFirstMark words base (word * 64 + place)
    first_found start place most on before clear marked = record {
      steps = step * 64 + place - from % 64;
      at = omega (arith, same, word_is);
      marked = λ l.
          let q : (word * 64 + place) / 64 ≡ word = omega arith in
          let r : (word * 64 + place) % 64 ≡ place = omega arith in
          ap (λ j. bit_at (get_or words j 0) ((word * 64 + place) % 64)) q ∙ ap (λ w. bit_at w ((word * 64 + place) % 64)) (sym value_is) ∙ ap (bit_at value) r ∙ marked;
      clear = λ k l m. clear_more start place (omega arith) before clear k (omega arith) m;
    }

  pub none_found : from < 1024 → IsClear words from base (17 * 64) → IsFirstMark words base from
  none_found within clear = record {
    steps = 1024;
    at = omega (arith, same);
    marked = λ l. absurd (omega arith);
    clear = λ k l m. clear k (omega arith) m;
  }
