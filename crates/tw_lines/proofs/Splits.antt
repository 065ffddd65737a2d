-- Words and lines that are joined are cut where they were joined.
use Rattle.std.proofs.Common.{◌≡◌, ℕ, ◌==◌, nat_le, Bool, true, false, ◌&&◌, ◌||◌, List, [], ◌∷◌, ◌++◌, length, refl, ap, sym, ◌∙◌, append_assoc, arith}
use Rattle.std.proofs.lemmas.Bool.{and_parts}
use Rattle.std.proofs.Math.Bool.{or-true}
use Rattle.std.proofs.lemmas.Bool.Decides.{nat_tests}
use Rattle.std.proofs.lemmas.List.{append-nil}
use Rattle.std.proofs.lemmas.List.Elements.{All-from_recursion}
use Rattle.std.proofs.lemmas.List.Folds.{list_all-append}
use Rattle.std.proofs.lemmas.List.Splits.{join_with_byte-slice_split, slice_split_at, slice_split_none}
use Rattle.std.specs.Char.{is_ascii_digit}
use Rattle.std.specs.List.{All, AllByRecursion, flat_map, join_with_byte, list_all, list_any, slice_split}
use Rattle.tw_lines.specs.Words.{ended_line, is_plain, parts_of, words}

-- a letter a to z, or a digit
abbrev pub is_sign : ℕ → Bool
is_sign b = (nat_le 97 b && nat_le b 122) || (nat_le 48 b && nat_le b 57)

pub record IsWord (w : List ℕ) : Type 0 where
  pub some : (length w == 0) ≡ false
  pub signs : list_all is_sign w ≡ true

-- a test that passes where another does
weaker : (p q : ℕ → Bool) → ((b : ℕ) → p b ≡ true → q b ≡ true) → (w : List ℕ) → list_all p w ≡ true → list_all q w ≡ true
weaker p q f [] h = refl
weaker p q f (b ∷ w) h = let v = and_parts (p b) (list_all p w) h in rw (f b v.0, weaker p q f w v.1) refl

-- no byte that passes the test is c
apart : (c : ℕ) (p : ℕ → Bool) → ((b : ℕ) → p b ≡ true → (b == c) ≡ false) → (w : List ℕ) → list_all p w ≡ true → AllByRecursion (λ b. (b == c) ≡ false) w
apart c p f [] h = tt
apart c p f (b ∷ w) h = let v = and_parts (p b) (list_all p w) h in (f b v.0, apart c p f w v.1)

pub no_space : (w : List ℕ) → list_all is_sign w ≡ true → All (λ b. (b == 32) ≡ false) w
no_space w h = All-from_recursion (λ b. (b == 32) ≡ false) w (apart 32 is_sign (λ b s. grind (arith, nat_tests)) w h)

no_line_feed : (l : List ℕ) → list_all is_plain l ≡ true → All (λ b. (b == 10) ≡ false) l
no_line_feed l h = All-from_recursion (λ b. (b == 10) ≡ false) l (apart 10 is_plain (λ b s. grind (arith, nat_tests)) l h)

pub all_plain : (w : List ℕ) → list_all is_sign w ≡ true → list_all is_plain w ≡ true
all_plain = weaker is_sign is_plain (λ b h. rw h (or-true (b == 32)))

pub digits_are_signs : (w : List ℕ) → list_all is_ascii_digit w ≡ true → list_all is_sign w ≡ true
digits_are_signs = weaker is_ascii_digit is_sign (λ b h. grind (arith, nat_tests))

-- words that are joined by spaces
pub words-join : (w : List ℕ) (ws : List (List ℕ)) → AllByRecursion IsWord (w ∷ ws) → words (join_with_byte 32 (w ∷ ws)) ≡ w ∷ ws
words-join w [] h = slice_split_none (λ b. b == 32) w (no_space w h.0.signs)
words-join w (v ∷ ws) h = slice_split_at (λ b. b == 32) w 32 (join_with_byte 32 (v ∷ ws)) (no_space w h.0.signs) refl ∙ ap (λ t. w ∷ t) (words-join v ws h.1)

-- a line of words is plain
pub join-plain : (w : List ℕ) (ws : List (List ℕ)) → AllByRecursion IsWord (w ∷ ws) → list_all is_plain (join_with_byte 32 (w ∷ ws)) ≡ true
join-plain w [] h = all_plain w h.0.signs
join-plain w (v ∷ ws) h =
    list_all-append is_plain w (32 ∷ join_with_byte 32 (v ∷ ws)) ∙ rw (all_plain w h.0.signs, join-plain v ws h.1) refl

pub none_empty : (ws : List (List ℕ)) → AllByRecursion IsWord ws → list_any (λ w. length w == 0) ws ≡ false
none_empty [] h = refl
none_empty (w ∷ ws) h = rw (h.0.some, none_empty ws h.1) refl

-- lines, each with its end
pub parts-lines : (lines : List (List ℕ)) → AllByRecursion (λ l. list_all is_plain l ≡ true) lines → parts_of (flat_map ended_line lines) ≡ lines ++ [] ∷ []
parts-lines [] h = refl
parts-lines (l ∷ lines) h =
    ap (slice_split (λ b. b == 10)) (append_assoc l (10 ∷ []) (flat_map ended_line lines))
    ∙ slice_split_at (λ b. b == 10) l 10 (flat_map ended_line lines) (no_line_feed l h.0) refl
    ∙ ap (λ t. l ∷ t) (parts-lines lines h.1)

join-lines : (lines : List (List ℕ)) → join_with_byte 10 (lines ++ [] ∷ []) ≡ flat_map ended_line lines
join-lines [] = refl
join-lines (l ∷ []) = sym (append-nil (l ++ 10 ∷ []))
join-lines (l ∷ m ∷ lines) = ap (λ t. l ++ 10 ∷ t) (join-lines (m ∷ lines)) ∙ sym (append_assoc l (10 ∷ []) (flat_map ended_line (m ∷ lines)))

-- a text whose parts are these lines and nothing after them
pub lines-text : (text : List ℕ) (lines : List (List ℕ)) → parts_of text ≡ lines ++ [] ∷ [] → text ≡ flat_map ended_line lines
lines-text text lines h = sym (join_with_byte-slice_split 10 text) ∙ ap (join_with_byte 10) h ∙ join-lines lines

-- the words of a line, joined, are the line
pub join-words : (line : List ℕ) → join_with_byte 32 (words line) ≡ line
join-words line = join_with_byte-slice_split 32 line
