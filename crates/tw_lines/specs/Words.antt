-- Lines, words and numbers of a text (own).
use Rattle.std.specs.Prelude.{ℕ, ◌==◌, nat_lt, nat_le, Bool, not, ◌||◌, ◌&&◌, List, [], ◌∷◌, ◌++◌, length, if◌then◌else◌, Result, Ok, Err, slice_index}
use Rattle.std.specs.Char.{is_ascii_digit}
use Rattle.std.specs.List.{list_all, slice_split}
use Rattle.std.specs.Str.Parse.{digits_value}
use Rattle.tw_model.specs.declared.limits.TheConstants.{MOST_DIGITS}
use Rattle.tw_lines.specs.declared.text_fault.LineFault.{LineFault}
use Rattle.tw_lines.specs.declared.text_fault.LineFault.TheVariants as x

-- the byte between two words
abbrev pub space : ℕ
space = 32

-- the byte at the end of a line
abbrev pub line_feed : ℕ
line_feed = 10

-- a space, a letter a to z, or a digit
abbrev pub is_plain : ℕ → Bool
is_plain b = (b == space) || ((nat_le 97 b && nat_le b 122) || (nat_le 48 b && nat_le b 57))

-- a line with its end
abbrev pub ended_line : List ℕ → List ℕ
ended_line line = line ++ line_feed ∷ []

-- what stands between line ends, and what follows the last
abbrev pub parts_of : List ℕ → List (List ℕ)
parts_of text = slice_split (λ b. b == line_feed) text

-- what stands between spaces; two spaces together, or one at an end, make an empty word
abbrev pub words : List ℕ → List (List ℕ)
words line = slice_split (λ b. b == space) line

-- whether the word is a number: at most ten digits, and no 0 in front of another
abbrev pub is_number : List ℕ → Bool
is_number w = not (length w == 0) && nat_le (length w) MOST_DIGITS && not (nat_lt 1 (length w) && (slice_index w 0 == 48)) && list_all is_ascii_digit w

-- the number that the word is
abbrev pub number_of : List ℕ → Result ℕ LineFault
number_of w = if is_number w then Ok (digits_value 10 w) else Err x.Number
