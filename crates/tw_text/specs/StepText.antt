-- The text of a list of steps, and how one is read (own; the format and the table of faults stand in docs/FORMATS.md).
use Rattle.std.specs.Prelude.{ℕ, ◌^◌, ◌<◌, ◌≤◌, ◌==◌, nat_le, nat_lt, Bool, true, false, not, ◌||◌, List, [], ◌∷◌, ◌++◌, length, map, if◌then◌else◌, Option, Some, None}
use Rattle.std.specs.Prelude.{Result, Ok, Err, bytes_eq, codes, decimal}
use Rattle.std.specs.List.{AllByRecursion, find, flat_map, list_all}
use Rattle.tw_model.specs.declared.rule.Rule.TheVariants.{TooMany}
use Rattle.tw_sim.specs.declared.machine.Step.{Step}
use Rattle.tw_sim.specs.declared.machine.Step.TheVariants.{Handle, Undo, Deliver, Bound, Commit, Release}
use Rattle.tw_lines.specs.declared.text_fault.LineFault.{LineFault}
use Rattle.tw_lines.specs.declared.text_fault.LineFault.TheVariants as x
use Rattle.tw_lines.specs.declared.text_fault.TextFault.{TextFault}
use Rattle.tw_lines.specs.LineReader.{TextReader}
use Rattle.tw_lines.specs.Reading.{read_from, ◌>>=◌}
use Rattle.tw_lines.specs.Words.{ended_line, is_plain, number_of, words}
use Rattle.tw_text.specs.declared.step_text.StepDraft.{StepDraft}
use Rattle.tw_text.specs.declared.step_text.StepDraft.TheVariants.{Open, Done}
use Rattle.tw_text.specs.declared.step_text.StepLine.{StepLine}
use Rattle.tw_text.specs.declared.step_text.StepLine.TheVariants as line
use Rattle.tw_model.specs.declared.limits.TheConstants.{MOST_DIGITS, MOST_STEPS}
use Rattle.tw_text.specs.FaultTable.{faults_in_order, has_no_number, if_said, is_no_statement, unless_fault, with_said}

-- ---- the text of steps

-- the line of a step
abbrev pub line_of_step : Step → List ℕ
line_of_step (Handle r) = codes "handle " ++ decimal r
line_of_step (Undo r) = codes "undo " ++ decimal r
line_of_step (Deliver k) = codes "deliver " ++ decimal k
line_of_step Bound = codes "bound"
line_of_step (Commit r) = codes "commit " ++ decimal r
line_of_step (Release r) = codes "release " ++ decimal r

-- the lines of steps
abbrev pub lines_of_steps : List Step → List (List ℕ)
lines_of_steps steps = map line_of_step steps ++ codes "end" ∷ []

-- the text of steps
unfoldable pub text_of_steps : List Step → List ℕ
text_of_steps steps = flat_map ended_line (lines_of_steps steps)

-- whether a line can say the step: a router is a `u32`, and a place in flight has at most ten digits
abbrev pub HasLine : Step → Type 0
HasLine (Handle r) = r < 2 ^ 32
HasLine (Undo r) = r < 2 ^ 32
HasLine (Deliver k) = k < 10 ^ MOST_DIGITS
HasLine Bound = Unit {0}
HasLine (Commit r) = r < 2 ^ 32
HasLine (Release r) = r < 2 ^ 32

-- whether a text can say the steps
pub record HasText (steps : List Step) : Type 0 where
  pub few : length steps ≤ MOST_STEPS
  pub lines : AllByRecursion HasLine steps

-- ---- what a line says

-- the router that the word is
abbrev pub router_of : List ℕ → Result ℕ LineFault
router_of w = number_of w >>= λ r. if nat_lt r (2 ^ 32) then Ok r else Err x.Number

-- what a word says that stands alone
abbrev pub said_alone : List ℕ → Result StepLine LineFault
said_alone w =
    if bytes_eq w (codes "bound") then Ok (line.Step Bound)
    else if bytes_eq w (codes "end") then Ok line.End
    else Err x.Word

-- the step that is made of the number that the word is
abbrev pub step_with : (List ℕ → Result ℕ LineFault) → (ℕ → Step) → List ℕ → Result StepLine LineFault
step_with read make w = read w >>= λ n. Ok (line.Step (make n))

-- what a word says with another behind it
abbrev pub said_with : List ℕ → List ℕ → Result StepLine LineFault
said_with w number =
    if length number == 0 then Err x.Word
    else if bytes_eq w (codes "handle") then step_with router_of (λ r. Handle r) number
    else if bytes_eq w (codes "undo") then step_with router_of (λ r. Undo r) number
    else if bytes_eq w (codes "deliver") then step_with number_of (λ k. Deliver k) number
    else if bytes_eq w (codes "commit") then step_with router_of (λ r. Commit r) number
    else if bytes_eq w (codes "release") then step_with router_of (λ r. Release r) number
    else Err x.Word

-- what the words of a line say, or why they say nothing
unfoldable pub said_by : List (List ℕ) → Result StepLine LineFault
said_by (w ∷ []) = said_alone w
said_by (w ∷ number ∷ []) = said_with w number
said_by ws = Err x.Word

-- ---- which faults a line has, and what a line without a fault adds

-- the steps that the lines before have given
abbrev pub steps_in : StepDraft → List Step
steps_in (Open steps) = steps
steps_in (Done steps) = steps

-- whether the last line was read
abbrev pub is_ended : StepDraft → Bool
is_ended (Open steps) = false
is_ended (Done steps) = true

-- whether it is one step too many
abbrev pub is_past_most : StepDraft → StepLine → Bool
is_past_most d (line.Step s) = nat_le MOST_STEPS (length (steps_in d))
is_past_most d line.End = false

-- the table: whether the line has the fault
abbrev pub step_holds : StepDraft → List ℕ → Bool → LineFault → Bool
step_holds d l ended x.Byte = not (list_all is_plain l)
step_holds d l ended x.Word = is_no_statement (said_by (words l))
step_holds d l ended x.Number = has_no_number (said_by (words l))
step_holds d l ended x.End = not ended || is_ended d
step_holds d l ended (x.Rule TooMany) = if_said (said_by (words l)) (is_past_most d)
step_holds d l ended fault = false

-- the lowest fault of the line
unfoldable pub step_fault : StepDraft → List ℕ → Bool → Option LineFault
step_fault d l ended = find (step_holds d l ended) faults_in_order

-- what a line adds that says this without a fault
abbrev pub with_step_line : StepDraft → StepLine → StepDraft
with_step_line d (line.Step s) = Open (steps_in d ++ s ∷ [])
with_step_line d line.End = Done (steps_in d)

-- the draft after the line, or the lowest fault of the line
unfoldable pub after_line : StepDraft → List ℕ → Bool → Result StepDraft LineFault
after_line d l ended = unless_fault (step_fault d l ended) (with_said with_step_line d (said_by (words l)))

-- ---- reading a whole text

-- the steps, where the last line was read
abbrev pub whole_steps : StepDraft → Option (List Step)
whole_steps (Done steps) = Some steps
whole_steps d = None

-- how a step text is read
abbrev pub step_reader : TextReader StepDraft (List Step)
step_reader = record { step = after_line; whole = whole_steps }

-- the steps of a text, or its first line with a fault, and the lowest fault of that line
unfoldable pub steps_of : List ℕ → Result (List Step) TextFault
steps_of text = read_from step_reader (Open []) text

-- ---- what the functions return that read one line

-- the draft after a line that says this
abbrev pub after_said : StepDraft → StepLine → Bool → Result StepDraft LineFault
after_said d said ended =
    if not ended || is_ended d then Err x.End
    else if is_past_most d said then Err (x.Rule TooMany)
    else Ok (with_step_line d said)

-- the draft after a line of these words
abbrev pub after_words : StepDraft → List (List ℕ) → Bool → Result StepDraft LineFault
after_words d ws ended = said_by ws >>= λ said. after_said d said ended
