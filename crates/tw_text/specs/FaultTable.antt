-- Which faults a line has, and what a line without a fault adds (own; the table stands in docs/FORMATS.md).
use Rattle.std.specs.Prelude.{ℕ, Bool, true, false, not, ◌||◌, ◌&&◌, List, [], ◌∷◌, ◌++◌, length, map, Option, Some, None, Result, Ok, Err}
use Rattle.std.specs.List.{find, list_all}
use Rattle.std.specs.Option.{is_some}
use Rattle.tw_model.specs.Net.{Net, bare_net, no_net}
use Rattle.tw_model.specs.Rules.{nodes_break, link_breaks, path_breaks, scene_breaks, case_breaks, rules_in_order}
use Rattle.tw_model.specs.declared.case.Scene.{Scene}
use Rattle.tw_model.specs.declared.limits.TheConstants.{LATEST_VERSION}
use Rattle.tw_model.specs.declared.rule.Rule.{Rule}
use Rattle.tw_lines.specs.declared.text_fault.LineFault.{LineFault}
use Rattle.tw_lines.specs.declared.text_fault.LineFault.TheVariants as x
use Rattle.tw_lines.specs.Words.{is_plain, words}
use Rattle.tw_text.specs.declared.draft.Draft.{Draft}
use Rattle.tw_text.specs.declared.draft.Draft.TheVariants.{Start, Header, Links, Paths, Scenes, Done}
use Rattle.tw_text.specs.Statements.{Statement, nodes_line, link_line, path_line, scene_line, end_line, statement_of}
use Rattle.tw_text.specs.Versions.{version_of}

-- the version of which line 1 is the header, 0 before it
abbrev pub version_in : Draft → ℕ
version_in Start = 0
version_in (Header version) = version
version_in (Links version net) = version
version_in (Paths version net) = version
version_in (Scenes version case) = version
version_in (Done case) = case.version

-- the instance that the lines before have given: none before line 2
abbrev pub net_of : Draft → Net
net_of Start = no_net
net_of (Header version) = no_net
net_of (Links version net) = net
net_of (Paths version net) = net
net_of (Scenes version case) = case.net
net_of (Done case) = case.net

-- the scenes that the lines before have given
abbrev pub scenes_of : Draft → List Scene
scenes_of Start = []
scenes_of (Header version) = []
scenes_of (Links version net) = []
scenes_of (Paths version net) = []
scenes_of (Scenes version case) = case.scenes
scenes_of (Done case) = case.scenes

-- whether line 1 is next
abbrev pub is_start : Draft → Bool
is_start Start = true
is_start d = false

-- whether the last line was read
abbrev pub is_done : Draft → Bool
is_done (Done case) = true
is_done d = false

-- whether the line may not stand here: line 2 is a nodes line, and no other line is; no link follows a path, and no link or path a scene
abbrev pub is_misplaced : Draft → Statement → Bool
is_misplaced Start s = true
is_misplaced (Header version) (nodes_line n) = false
is_misplaced (Header version) s = true
is_misplaced d (nodes_line n) = true
is_misplaced (Paths version net) (link_line l) = true
is_misplaced (Scenes version case) (link_line l) = true
is_misplaced (Done case) (link_line l) = true
is_misplaced (Scenes version case) (path_line p) = true
is_misplaced (Done case) (path_line p) = true
is_misplaced d s = false

-- the rules that the line breaks after the lines before it: with the last line, the rules of the whole case
abbrev pub breaks : Draft → Statement → Rule → Bool
breaks d (nodes_line n) r = nodes_break n r
breaks d (link_line l) r = link_breaks (net_of d) l r
breaks d (path_line p) r = path_breaks (net_of d) p r
breaks d (scene_line s) r = scene_breaks (net_of d) (length (scenes_of d)) s r
breaks d end_line r = case_breaks (version_in d) (net_of d) (scenes_of d) r

-- the rows that hold from line 2 on
abbrev pub from_second : Draft → Bool → Bool
from_second d holds = not (is_start d) && holds

-- whether the words are none of a line
abbrev pub is_no_statement : {S : Type 0} → Result S LineFault → Bool
is_no_statement (Err x.Word) = true
is_no_statement said = false

-- whether a word is no number where one stands
abbrev pub has_no_number : {S : Type 0} → Result S LineFault → Bool
has_no_number (Err x.Number) = true
has_no_number said = false

-- what the line says in the version of the lines before it
abbrev pub said_after : Draft → List ℕ → Result Statement LineFault
said_after d line = statement_of (version_in d) (words line)

-- the test of what the line says
abbrev pub if_said : {S : Type 0} → Result S LineFault → (S → Bool) → Bool
if_said (Ok s) test = test s
if_said (Err fault) test = false

-- the table: whether the line has the fault
abbrev pub holds : Draft → List ℕ → Bool → LineFault → Bool
holds d line ended x.Byte = not (list_all is_plain line)
holds d line ended x.Header = is_start d && not (is_some (version_of line))
holds d line ended x.Word = from_second d (is_no_statement (said_after d line))
holds d line ended x.Number = from_second d (has_no_number (said_after d line))
holds d line ended x.Order = from_second d (if_said (said_after d line) (is_misplaced d))
holds d line ended x.End = not ended || is_done d
holds d line ended (x.Rule r) = from_second d (if_said (said_after d line) (λ s. breaks d s r))

-- every fault, in ascending order of the codes
abbrev pub faults_in_order : List LineFault
faults_in_order = x.Byte ∷ x.Header ∷ x.Word ∷ x.Number ∷ x.Order ∷ x.End ∷ map (λ r. x.Rule r) rules_in_order

-- the lowest fault of the line
unfoldable pub fault_of : Draft → List ℕ → Bool → Option LineFault
fault_of d line ended = find (holds d line ended) faults_in_order

-- what a header adds
abbrev pub with_header : Option ℕ → Draft
with_header (Some version) = Header version
with_header None = Start

-- what a statement without a fault adds; a case is one of the latest version until its last line
abbrev pub with_statement : Draft → Statement → Draft
with_statement d (nodes_line n) = Links (version_in d) (bare_net n)
with_statement d (link_line l) = Links (version_in d) (let net = net_of d in record net { links = net.links ++ l ∷ [] })
with_statement d (path_line p) = Paths (version_in d) (let net = net_of d in record net { permitted = net.permitted ++ p ∷ [] })
with_statement d (scene_line s) = Scenes (version_in d) (record { version = LATEST_VERSION; net = net_of d; scenes = scenes_of d ++ s ∷ [] })
with_statement d end_line = Done (record { version = version_in d; net = net_of d; scenes = scenes_of d })

-- what words without a fault add
abbrev pub with_said : {D S : Type 0} → (D → S → D) → D → Result S LineFault → D
with_said add d (Ok s) = add d s
with_said add d (Err fault) = d

-- what a line without a fault adds
unfoldable pub with_line : Draft → List ℕ → Draft
with_line Start line = with_header (version_of line)
with_line d line = with_said with_statement d (said_after d line)

-- the fault, or what comes next where there is none
abbrev pub unless_fault : {A : Type 0} → Option LineFault → A → Result A LineFault
unless_fault (Some fault) next = Err fault
unless_fault None next = Ok next

-- the draft after the line, or the lowest fault of the line
abbrev pub draft_after : Draft → List ℕ → Bool → Result Draft LineFault
draft_after d line ended = unless_fault (fault_of d line ended) (with_line d line)
