-- Words and lines of output texts (own).
use Rattle.std.specs.Prelude.{ℕ, List, [], ◌∷◌, ◌++◌, map}
use Rattle.std.specs.Fmt.{decimal}
use Rattle.std.specs.List.{join_with_byte}
use Rattle.tw_report.specs.declared.words.Word.{Word}
use Rattle.tw_report.specs.declared.words.Word.TheVariants.{Name, Number, Count, Path}

-- words with a space between each two
abbrev pub with_spaces : List (List ℕ) → List ℕ
with_spaces words = join_with_byte 32 words

-- a line of these words, with its end
abbrev pub line : List (List ℕ) → List ℕ
line words = with_spaces words ++ 10 ∷ []

-- a path in parentheses
abbrev pub path_text : List ℕ → List ℕ
path_text nodes = 40 ∷ (with_spaces (map decimal nodes) ++ 41 ∷ [])

-- the bytes of a word
abbrev pub word_text : Word → List ℕ
word_text (Name letters) = letters.now
word_text (Number n) = decimal n
word_text (Count n) = decimal n
word_text (Path nodes) = path_text nodes.now

-- a word with a space before it
abbrev pub spaced_word : Word → List ℕ
spaced_word word = 32 ∷ word_text word

-- a number with a space before it
abbrev pub spaced_number : ℕ → List ℕ
spaced_number n = 32 ∷ decimal n
