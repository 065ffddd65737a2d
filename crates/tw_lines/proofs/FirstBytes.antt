-- The first place of a byte.
use Rattle.std.proofs.Common.{◌≡◌, ℕ, ◌==◌, List, get_or, length, Option, None, Some, refl, arith}
use Rattle.std.specs.List.{position, position_or_len}
use Rattle.std.proofs.lemmas.Bool.{false_from_ne_true, lt-ltb, le-ltb}
use Rattle.std.proofs.lemmas.List.Sums.{position_or_len_is}
use Rattle.memchr.specs.Find.{IsFirstByte, is_byte}

pub first_byte : (b : ℕ) (text : List ℕ) (place : Option ℕ) → IsFirstByte (is_byte b) text place → place ≡ position (λ x. x == b) text
first_byte b text None h =
    let all : position_or_len (λ x. x == b) text ≡ length text =
    position_or_len_is (λ x. x == b) text (length text) 0 (omega arith) (λ k l. false_from_ne_true (get_or text k 0 == b) (h k (omega arith) l)) (λ l. absurd (omega arith)) in
    rw (all, le-ltb (length text) (length text) (omega arith)) refl
first_byte b text (Some k) h =
    let here : position_or_len (λ x. x == b) text ≡ k =
    position_or_len_is (λ x. x == b) text k 0 (let l = h.0.high in omega arith) (λ j l. false_from_ne_true (get_or text j 0 == b) (h.0.before j (omega arith) l)) (λ l. h.1) in
    rw (here, lt-ltb k (length text) h.0.high) refl
