-- A replay text: a case text, followed at once by a step text (own; the format stands in docs/FORMATS.md).
use Rattle.std.specs.Prelude.{ℕ, Bool, List, [], ◌++◌, Option, None, Result, Ok, option_map}
use Rattle.std.specs.Result.{result_map_both}
use Rattle.std.specs.declared.alloc.Global.{Global}
use Rattle.std.specs.declared.vec.Vec.{Vec}
use Rattle.tw_model.specs.Case.{Case}
use Rattle.tw_sim.specs.declared.machine.Step.{Step}
use Rattle.tw_lines.specs.declared.text_fault.LineFault.{LineFault}
use Rattle.tw_lines.specs.declared.text_fault.TextFault.{TextFault}
use Rattle.tw_lines.specs.LineReader.{TextReader}
use Rattle.tw_lines.specs.Reading.{read_from, ◌>>=◌}
use Rattle.tw_text.specs.declared.draft.Draft.{Draft}
use Rattle.tw_text.specs.declared.draft.Draft.TheVariants.{Start, Done}
use Rattle.tw_text.specs.declared.replay_text.ReplayDraft.{ReplayDraft}
use Rattle.tw_text.specs.declared.replay_text.ReplayDraft.TheVariants as replay
use Rattle.tw_text.specs.declared.step_text.StepDraft.TheVariants.{Open}
use Rattle.tw_text.specs.FaultTable.{draft_after}
use Rattle.tw_text.specs.StepText.{after_line, text_of_steps, whole_steps}
use Rattle.tw_text.specs.Text.{text_of_case}

-- the text of a case and of steps
unfoldable pub text_of_replay : Case → List Step → List ℕ
text_of_replay case steps = text_of_case case ++ text_of_steps steps

-- steps follow where the case is whole
abbrev pub after_case : Draft → ReplayDraft
after_case (Done case) = replay.Steps case (Open [])
after_case d = replay.Case d

-- a line is one of the case text until its end, and then one of the step text
abbrev pub after_replay_line : ReplayDraft → List ℕ → Bool → Result ReplayDraft LineFault
after_replay_line (replay.Case d) l ended = draft_after d l ended >>= λ after. Ok (after_case after)
after_replay_line (replay.Steps case d) l ended = after_line d l ended >>= λ after. Ok (replay.Steps case after)

-- the case and the steps, where the last line of both was read
abbrev pub whole_replay : ReplayDraft → Option (Case × List Step)
whole_replay (replay.Case d) = None
whole_replay (replay.Steps case d) = option_map (λ steps. (case, steps)) (whole_steps d)

-- how a replay text is read
abbrev pub replay_reader : TextReader ReplayDraft (Case × List Step)
replay_reader = record { step = after_replay_line; whole = whole_replay }

-- the case and the steps of a text, or its first line with a fault, and the lowest fault of that line
unfoldable pub replay_of : List ℕ → Result (Case × List Step) TextFault
replay_of text = read_from replay_reader (replay.Case Start) text

-- the case and the steps that were returned
abbrev pub seen : {E : Type 0} → Result (Case × Vec Step Global) E → Result (Case × List Step) E
seen result = result_map_both (λ read. (read.0, read.1.items)) (λ e. e) result
