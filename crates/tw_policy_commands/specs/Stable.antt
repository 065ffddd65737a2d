-- What `stable` writes (own).
use Rattle.std.specs.Prelude.{ℕ, suc, ◌+◌, Bool, List, [], ◌∷◌, ◌++◌, codes, length, if◌then◌else◌}
use Rattle.std.specs.Fmt.{decimal}
use Rattle.tw_commands.specs.declared.cause.Status.TheVariants.{Done}
use Rattle.tw_commands.specs.ForCase.{for_case}
use Rattle.tw_commands.specs.Output.{Output}
use Rattle.tw_event.specs.declared.event.PathNo.{PathNo}
use Rattle.tw_model.specs.Case.{Case}
use Rattle.tw_model.specs.Net.{Net, path}
use Rattle.tw_report.specs.Words.{line, path_text}
use Rattle.tw_stable.specs.Splitting.{are_enough, found_by}
use Rattle.tw_text.specs.Reading.{case_of}

-- a line with the path of router v
abbrev pub rib_line : Net → ℕ → PathNo → List ℕ
rib_line net v q = line (codes "router" ∷ decimal v ∷ codes "rib" ∷ path_text (path net q) ∷ [])

-- of each router from v on its line
abbrev pub rib_lines : Net → ℕ → List PathNo → List ℕ
rib_lines net v [] = []
rib_lines net v (q ∷ ribs) = rib_line net v q ++ rib_lines net (v + 1) ribs

-- the assignment of this number
abbrev pub assignment_text : Net → ℕ → List PathNo → List ℕ
assignment_text net k ribs = line (codes "assignment" ∷ decimal k ∷ []) ++ rib_lines net 0 ribs

-- these assignments, numbered from k on
abbrev pub assignment_lines : Net → ℕ → List (List PathNo) → List ℕ
assignment_lines net k [] = []
assignment_lines net k (ribs ∷ others) = assignment_text net k ribs ++ assignment_lines net (k + 1) others

-- how many there are, or how many at least
abbrev pub count_line : ℕ → Bool → List ℕ
count_line count are_all = line (codes "verdict" ∷ codes "stable" ∷ (if are_all then decimal count ∷ [] else codes "at" ∷ codes "least" ∷ decimal count ∷ []))

-- the name of the format, the assignments, and how many there are
unfoldable pub stable_text : Net → List (List PathNo) → Bool → List ℕ
stable_text net found are_all = line (codes "spp-stable" ∷ codes "1" ∷ []) ++ (assignment_lines net 1 found ++ count_line (length found) are_all)

-- the stable assignments of a case that so many splits find
abbrev pub assignments_of : ℕ → Case → Output
assignments_of splits case = record { status = Done; text = stable_text case.net (found_by splits case) (are_enough splits case) }

-- the same for the case of a text, or why it has none
abbrev pub stable_output : ℕ → List ℕ → Output
stable_output splits input = for_case (assignments_of splits) (case_of input)
