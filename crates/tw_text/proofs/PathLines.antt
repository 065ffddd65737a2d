-- Path lines that are read number by number.
use Rattle.std.proofs.Common.{◌≡◌, ℕ, ◌+◌, ◌<◌, ◌≤◌, ◌==◌, nat_lt, nat_le, Bool, true, false, not, ◌&&◌, List, [], ◌∷◌, ◌++◌, length, map, take, drop, take-append-drop, get_or, slice_index, refl, ap, sym, ◌∙◌, inl, inr, add-one, arith, bytes_eq, codes, if◌then◌else◌, Some}
use Rattle.std.proofs.Math.Seq.{split_at}
use Rattle.std.proofs.lemmas.Bool.{and_parts, cases_lt, not-true}
use Rattle.std.proofs.lemmas.Bool.Decides.{nat_tests}
use Rattle.std.proofs.lemmas.List.{length-map, take_all}
use Rattle.std.proofs.lemmas.List.Elements.{All-from_recursion}
use Rattle.std.proofs.lemmas.List.Folds.{list_all-append}
use Rattle.std.proofs.lemmas.List.Splits.{slice_split_at, slice_split_none}
use Rattle.std.specs.Char.{is_ascii_digit}
use Rattle.std.specs.Cmp.Lexicographic.{bytes_decides}
use Rattle.std.specs.List.{find, list_all, list_any}
use Rattle.std.specs.Str.Parse.{digits_value}
use Rattle.tw_lines.specs.Reading.{◌>>=◌}
use Rattle.tw_lines.specs.Words.{is_number, is_plain, words}
use Rattle.tw_lines.proofs.Splits.{all_plain, digits_are_signs, no_space}
use Rattle.tw_text.specs.declared.keyword.Keyword.TheVariants as keyword
use Rattle.tw_model.specs.Net.{Net}
use Rattle.tw_model.specs.PermittedPath.{PermittedPath}
use Rattle.tw_text.specs.declared.draft.Draft.TheVariants.{Paths}
use Rattle.tw_text.specs.Drafts.{step_said, with_path}
use Rattle.tw_text.specs.FaultTable.{draft_after}
use Rattle.tw_text.specs.PathLine.{AreNumbers, BeginsWith, IsPathLine}
use Rattle.tw_text.specs.Statements.{keyword_before, keyword_of, numbers_of, statement_of, statement_with, word_of}
use Rattle.tw_text.specs.Versions.{first_keywords, second_keywords}
use Rattle.tw_text.proofs.Faults.{later_step}

-- a number is plain and has no space
digits_in : (w : List ℕ) → is_number w ≡ true → list_all is_ascii_digit w ≡ true
digits_in w h = (and_parts (not (length w == 0) && nat_le (length w) 10 && not (nat_lt 1 (length w) && (slice_index w 0 == 48))) (list_all is_ascii_digit w) h).1

some_in : (w : List ℕ) → is_number w ≡ true → (length w == 0) ≡ false
some_in w h =
    let a = and_parts (not (length w == 0) && nat_le (length w) 10 && not (nat_lt 1 (length w) && (slice_index w 0 == 48))) (list_all is_ascii_digit w) h in
    let b = and_parts (not (length w == 0) && nat_le (length w) 10) (not (nat_lt 1 (length w) && (slice_index w 0 == 48))) a.0 in
    not-true (length w == 0) (and_parts (not (length w == 0)) (nat_le (length w) 10) b.0).0

none_empty : (ws : List (List ℕ)) → list_all is_number ws ≡ true → list_any (λ w. length w == 0) ws ≡ false
none_empty [] h = refl
none_empty (w ∷ ws) h = let p = and_parts (is_number w) (list_all is_number ws) h in rw (some_in w p.0, none_empty ws p.1) refl

plain_number : (w : List ℕ) → is_number w ≡ true → list_all is_plain w ≡ true
plain_number w h = all_plain w (digits_are_signs w (digits_in w h))

-- the number is the whole text
pub last_number : (text : List ℕ) (n end : ℕ) → BeginsWith text n end → end ≡ length text → AreNumbers text (n ∷ [])
last_number text n end b e =
    let whole : take end text ≡ text = take_all end text (omega arith) in
    let number : is_number text ≡ true = ap is_number (sym whole) ∙ b.number in
    let one : words text ≡ text ∷ [] = slice_split_none (λ c. c == 32) text (no_space text (digits_are_signs text (digits_in text number))) in
    record {
      plain = plain_number text number;
      numbers = ap (list_all is_number) one ∙ rw number refl;
      values = ap (map (digits_value 10)) one ∙ ap (λ n. n ∷ []) (ap (digits_value 10) (sym whole) ∙ b.value);
    }

-- a space follows, and other numbers
more : (w rest ns : List ℕ) → is_number w ≡ true → AreNumbers rest ns → AreNumbers (w ++ 32 ∷ rest) (digits_value 10 w ∷ ns)
more w rest ns number h =
    let cut : words (w ++ 32 ∷ rest) ≡ w ∷ words rest = slice_split_at (λ c. c == 32) w 32 rest (no_space w (digits_are_signs w (digits_in w number))) refl in
    record {
      plain = list_all-append is_plain w (32 ∷ rest) ∙ rw (plain_number w number, h.plain) refl;
      numbers = ap (list_all is_number) cut ∙ rw (number, h.numbers) refl;
      values = ap (map (digits_value 10)) cut ∙ ap (λ ns. digits_value 10 w ∷ ns) h.values;
    }

pub more_numbers : (text ns : List ℕ) (n end : ℕ) → BeginsWith text n end → (end ≡ length text → ⊥) → AreNumbers (drop (end + 1) text) ns → AreNumbers text (n ∷ ns)
more_numbers text ns n end b apart h =
    let within = b.within in
    let less : end < length text = elim (cases_lt end (length text)) [
      | inl below ↦ below
      | inr above ↦ absurd (apart (omega arith))
    ] in
    let split : text ≡ take end text ++ 32 ∷ drop (end + 1) text = split_at text end 0 less ∙ (ap (λ k. take end text ++ get_or text end 0 ∷ drop k text) (sym (add-one end)) ∙ ap (λ c. take end text ++ c ∷ drop (end + 1) text) (b.ends less)) in
    rw (split, ← b.value) (more (take end text) (drop (end + 1) text) ns b.number h)

-- each version has paths
path_word : (version : ℕ) → keyword_of version (112 ∷ 97 ∷ 116 ∷ 104 ∷ []) ≡ Some keyword.Path
path_word version = word_in (version == 1)
  where
    word_in : (first : Bool) → find (λ k. bytes_eq (112 ∷ 97 ∷ 116 ∷ 104 ∷ []) (word_of k)) (if first then first_keywords else second_keywords) ≡ Some keyword.Path
    word_in true = refl
    word_in false = refl

path_said : (version : ℕ) (ws : List (List ℕ)) (ns : List ℕ) → list_all is_number ws ≡ true → map (digits_value 10) ws ≡ ns → nat_le 2 (length ws) ≡ true
    → statement_of version ((112 ∷ 97 ∷ 116 ∷ 104 ∷ []) ∷ ws) ≡ statement_with keyword.Path ns
unfolding statement_of
path_said version ws ns numbers values two =
    ap (λ found. keyword_before found ws >>= λ k. numbers_of ws >>= λ ns. statement_with k ns) (path_word version) ∙ rw (two, none_empty ws numbers, numbers, values) refl

pub path_line : (text ns : List ℕ) → AreNumbers text ns → 2 ≤ length ns
    → IsPathLine (112 ∷ 97 ∷ 116 ∷ 104 ∷ 32 ∷ text) (record { owner = get_or ns 0 0; nodes = drop 1 ns })
path_line text [] h two = absurd (omega arith)
path_line text (v ∷ nodes) h two =
    let cut : words (112 ∷ 97 ∷ 116 ∷ 104 ∷ 32 ∷ text) ≡ (112 ∷ 97 ∷ 116 ∷ 104 ∷ []) ∷ words text
    = slice_split_at (λ c. c == 32) (112 ∷ 97 ∷ 116 ∷ 104 ∷ []) 32 text (All-from_recursion (λ b. (b == 32) ≡ false) (112 ∷ 97 ∷ 116 ∷ 104 ∷ []) (refl, (refl, (refl, (refl, tt))))) refl in
    let count : length (words text) ≡ length (v ∷ nodes) = sym (length-map (words text) (digits_value 10)) ∙ ap length h.values in
    record {
      plain = h.plain;
      said = λ version. ap (statement_of version) cut ∙ path_said version (words text) (v ∷ nodes) h.numbers h.values (grind (arith, nat_tests));
    }

pub path_line_from : (line front text ns : List ℕ) → front ≡ codes "path " → bytes_eq (take (length front) line) front ≡ true → text ≡ drop (length front) line
    → AreNumbers text ns → 2 ≤ length ns → IsPathLine line (record { owner = get_or ns 0 0; nodes = drop 1 ns })
path_line_from line front text ns is begins rest h two =
    let same : take (length front) line ≡ front = (bytes_decides (take (length front) line) front).0 begins in
    let whole : line ≡ front ++ text = sym (take-append-drop (length front) line) ∙ (ap (λ t. t ++ drop (length front) line) same ∙ ap (λ t. front ++ t) (sym rest)) in
    let spelt : line ≡ 112 ∷ 97 ∷ 116 ∷ 104 ∷ 32 ∷ text = whole ∙ ap (λ t. t ++ text) is in
    rw spelt (path_line text ns h two)

-- a path line, where paths may follow
pub path_step : (version : ℕ) (net : Net) (line : List ℕ) (path : PermittedPath) → IsPathLine line path → draft_after (Paths version net) line true ≡ with_path version net path
path_step version net line path h = later_step (Paths version net) line true refl h.plain ∙ ap (λ said. step_said (Paths version net) said true) (h.said version)
