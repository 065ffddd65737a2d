-- Path lines as they are nearly always written, which are read in one pass (own).
use Rattle.std.specs.Prelude.{ℕ, ◌≡◌, ◌<◌, ◌≤◌, true, List, length, map, slice_index, take, Ok}
use Rattle.std.specs.List.{list_all}
use Rattle.std.specs.Str.Parse.{digits_value}
use Rattle.tw_model.specs.PermittedPath.{PermittedPath}
use Rattle.tw_lines.specs.Words.{is_number, is_plain, words}
use Rattle.tw_text.specs.Statements.{path_line, statement_of}

-- the text begins with this number, whose word ends here
pub record BeginsWith (text : List ℕ) (n end : ℕ) : Type 0 where
  pub within : end ≤ length text
  pub number : is_number (take end text) ≡ true
  pub value : digits_value 10 (take end text) ≡ n
  pub ends : end < length text → slice_index text end ≡ 32

-- the words of the text are these numbers
pub record AreNumbers (text : List ℕ) (ns : List ℕ) : Type 0 where
  pub plain : list_all is_plain text ≡ true
  pub numbers : list_all is_number (words text) ≡ true
  pub values : map (digits_value 10) (words text) ≡ ns

-- the line is plain, and says this path in each version of the text
pub record IsPathLine (line : List ℕ) (path : PermittedPath) : Type 0 where
  pub plain : list_all is_plain line ≡ true
  pub said : (version : ℕ) → statement_of version (words line) ≡ Ok (path_line path)
