-- What a line says, from line 2 on: a keyword with numbers behind it (own).
use Rattle.std.specs.Prelude.{ℕ, ◌==◌, nat_le, Bool, not, ◌&&◌, List, [], ◌∷◌, length, map, if◌then◌else◌, Option, Some, None, Result, Ok, Err, bytes_eq, codes}
use Rattle.std.specs.List.{find, list_all, list_any}
use Rattle.std.specs.Str.Parse.{digits_value}
use Rattle.tw_model.specs.declared.case.Scene.{Scene}
use Rattle.tw_model.specs.declared.case.Scene.TheVariants.{Allow, Fail, Forbid, Restore, Swap}
use Rattle.tw_model.specs.declared.net.Link.{Link}
use Rattle.tw_model.specs.PermittedPath.{PermittedPath}
use Rattle.tw_lines.specs.declared.text_fault.LineFault.{LineFault}
use Rattle.tw_lines.specs.declared.text_fault.LineFault.TheVariants as x
use Rattle.tw_lines.specs.Reading.{◌>>=◌}
use Rattle.tw_lines.specs.Words.{is_number}
use Rattle.tw_text.specs.declared.keyword.Keyword.{Keyword}
use Rattle.tw_text.specs.declared.keyword.Keyword.TheVariants as keyword
use Rattle.tw_text.specs.Versions.{keywords}

-- what a line says
pub data Statement : Type 0 where
  nodes_line : ℕ → Statement
  link_line : Link → Statement
  path_line : PermittedPath → Statement
  scene_line : Scene → Statement
  end_line : Statement

-- the word of a keyword
abbrev pub word_of : Keyword → List ℕ
word_of keyword.Nodes = codes "nodes"
word_of keyword.Link = codes "link"
word_of keyword.TwoWayLink = codes "link"
word_of keyword.Path = codes "path"
word_of keyword.Fail = codes "fail"
word_of keyword.Restore = codes "restore"
word_of keyword.Swap = codes "swap"
word_of keyword.Forbid = codes "forbid"
word_of keyword.Allow = codes "allow"
word_of keyword.End = codes "end"

-- the keyword that a word is in a version of the text
abbrev pub keyword_of : ℕ → List ℕ → Option Keyword
keyword_of version word = find (λ k. bytes_eq word (word_of k)) (keywords version)

-- whether so many words may follow the keyword on its line
abbrev pub takes : Keyword → ℕ → Bool
takes keyword.Nodes n = n == 1
takes keyword.Link n = n == 3
takes keyword.TwoWayLink n = n == 4
takes keyword.Path n = nat_le 2 n
takes keyword.Fail n = n == 3
takes keyword.Restore n = n == 3
takes keyword.Swap n = n == 4
takes keyword.Forbid n = n == 3
takes keyword.Allow n = n == 3
takes keyword.End n = n == 0

-- whether these words, none of them empty, may follow the keyword
abbrev pub takes_words : Keyword → List (List ℕ) → Bool
takes_words k ws = takes k (length ws) && not (list_any (λ w. length w == 0) ws)

-- the keyword, where it is one and these words may follow it
abbrev pub keyword_before : Option Keyword → List (List ℕ) → Result Keyword LineFault
keyword_before None ws = Err x.Word
keyword_before (Some k) ws = if takes_words k ws then Ok k else Err x.Word

-- the numbers that the words are
abbrev pub numbers_of : List (List ℕ) → Result (List ℕ) LineFault
numbers_of ws = if list_all is_number ws then Ok (map (digits_value 10) ws) else Err x.Number

-- the scenario line that the keyword is with these numbers
abbrev pub scene_with : Keyword → List ℕ → Result Scene LineFault
scene_with keyword.Fail (t ∷ a ∷ b ∷ []) = Ok (Fail t a b)
scene_with keyword.Restore (t ∷ a ∷ b ∷ []) = Ok (Restore t a b)
scene_with keyword.Swap (t ∷ v ∷ i ∷ j ∷ []) = Ok (Swap t v i j)
scene_with keyword.Forbid (t ∷ v ∷ k ∷ []) = Ok (Forbid t v k)
scene_with keyword.Allow (t ∷ v ∷ k ∷ []) = Ok (Allow t v k)
scene_with k ns = Err x.Word

-- what a scenario line says, if the keyword with these numbers is one
abbrev pub scene_said : Keyword → List ℕ → Result Statement LineFault
scene_said k ns = scene_with k ns >>= λ s. Ok (scene_line s)

-- what the keyword says with these numbers
abbrev pub statement_with : Keyword → List ℕ → Result Statement LineFault
statement_with keyword.Nodes (n ∷ []) = Ok (nodes_line n)
statement_with keyword.Link (a ∷ b ∷ delay ∷ []) = Ok (link_line (record { first = a; second = b; delay = delay; back = delay }))
statement_with keyword.TwoWayLink (a ∷ b ∷ delay ∷ back ∷ []) = Ok (link_line (record { first = a; second = b; delay = delay; back = back }))
statement_with keyword.Path (v ∷ path) = Ok (path_line (record { owner = v; nodes = path }))
statement_with keyword.End [] = Ok end_line
statement_with k ns = scene_said k ns

-- what the words of a line say in a version of the text, or why they say nothing
unfoldable pub statement_of : ℕ → List (List ℕ) → Result Statement LineFault
statement_of version [] = Err x.Word
statement_of version (word ∷ ws) = keyword_before (keyword_of version word) ws >>= λ k. numbers_of ws >>= λ ns. statement_with k ns
