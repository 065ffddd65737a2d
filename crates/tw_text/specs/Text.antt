-- The one text of each case (own).
use Rattle.std.specs.Prelude.{ℕ, ◌==◌, List, [], ◌∷◌, ◌++◌, map, if◌then◌else◌, decimal}
use Rattle.std.specs.List.{flat_map, join_with_byte}
use Rattle.tw_model.specs.Case.{Case}
use Rattle.tw_model.specs.declared.case.Scene.{Scene}
use Rattle.tw_model.specs.declared.case.Scene.TheVariants.{Allow, Fail, Forbid, Restore, Swap}
use Rattle.tw_model.specs.PermittedPath.{PermittedPath}
use Rattle.tw_lines.specs.Words.{ended_line, space}
use Rattle.tw_text.specs.declared.keyword.Keyword.{Keyword}
use Rattle.tw_text.specs.declared.keyword.Keyword.TheVariants as keyword
use Rattle.tw_text.specs.Statements.{Statement, nodes_line, link_line, path_line, scene_line, end_line, word_of}
use Rattle.tw_text.specs.Versions.{header}

-- what the lines of a case say, from line 2 on
abbrev pub statements_of : Case → List Statement
statements_of case =
    nodes_line case.net.nodes
    ∷ (map (λ l. link_line l) case.net.links ++ (map (λ p. path_line p) case.net.permitted ++ (map (λ s. scene_line s) case.scenes ++ end_line ∷ [])))

-- the keyword of a scenario line
abbrev pub scene_keyword : Scene → Keyword
scene_keyword (Fail t a b) = keyword.Fail
scene_keyword (Restore t a b) = keyword.Restore
scene_keyword (Swap t v i j) = keyword.Swap
scene_keyword (Forbid t v k) = keyword.Forbid
scene_keyword (Allow t v k) = keyword.Allow

-- the numbers behind it
abbrev pub scene_numbers : Scene → List ℕ
scene_numbers (Fail t a b) = t ∷ a ∷ b ∷ []
scene_numbers (Restore t a b) = t ∷ a ∷ b ∷ []
scene_numbers (Swap t v i j) = t ∷ v ∷ i ∷ j ∷ []
scene_numbers (Forbid t v k) = t ∷ v ∷ k ∷ []
scene_numbers (Allow t v k) = t ∷ v ∷ k ∷ []

-- the keyword of a line in a version of the text
abbrev pub keyword_in : ℕ → Statement → Keyword
keyword_in version (nodes_line n) = keyword.Nodes
keyword_in version (link_line l) = if version == 1 then keyword.Link else keyword.TwoWayLink
keyword_in version (path_line p) = keyword.Path
keyword_in version (scene_line s) = scene_keyword s
keyword_in version end_line = keyword.End

-- the numbers behind it: version 1 has one delay for both directions of a link
abbrev pub numbers_in : ℕ → Statement → List ℕ
numbers_in version (nodes_line n) = n ∷ []
numbers_in version (link_line l) = if version == 1 then l.first ∷ l.second ∷ l.delay ∷ [] else l.first ∷ l.second ∷ l.delay ∷ l.back ∷ []
numbers_in version (path_line p) = p.owner ∷ p.nodes
numbers_in version (scene_line s) = scene_numbers s
numbers_in version end_line = []

-- a keyword and numbers as words
abbrev pub words_with : Keyword → List ℕ → List (List ℕ)
words_with k ns = word_of k ∷ map decimal ns

-- the words that say it
abbrev pub words_of : ℕ → Statement → List (List ℕ)
words_of version s = words_with (keyword_in version s) (numbers_in version s)

-- the line that says it: its words, with a space between each two
abbrev pub line_of : ℕ → Statement → List ℕ
line_of version s = join_with_byte space (words_of version s)

-- the line of a path, the same in each version
abbrev pub line_of_path : PermittedPath → List ℕ
line_of_path p = join_with_byte space (words_with keyword.Path (p.owner ∷ p.nodes))

-- a scenario line, the same in each version that has it
abbrev pub line_of_scene : Scene → List ℕ
line_of_scene s = join_with_byte space (words_with (scene_keyword s) (scene_numbers s))

-- the lines of a case
abbrev pub lines_of : Case → List (List ℕ)
lines_of case = header case.version ∷ map (line_of case.version) (statements_of case)

-- the text of a case
unfoldable pub text_of_case : Case → List ℕ
text_of_case case = flat_map ended_line (lines_of case)
