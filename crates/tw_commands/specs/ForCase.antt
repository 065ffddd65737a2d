-- A program's answer to a text: that for its case, alone or with the steps behind it, or the refusal (own).
use Rattle.std.specs.Prelude.{ℕ, List, [], ◌∷◌, ◌++◌, Result, Ok, Err}
use Rattle.tw_commands.specs.declared.cause.Status.TheVariants.{Refused}
use Rattle.tw_commands.specs.Output.{Output}
use Rattle.tw_lines.specs.declared.text_fault.TextFault.{TextFault}
use Rattle.tw_lines.specs.FaultNames.{refusal_text}

-- a refusal, with its text
abbrev pub refusal_output : List ℕ → Output
refusal_output text = record { status = Refused; text = text }

-- the output for the case of a text; where the text has none, its first faulty line and that line's lowest fault
abbrev pub for_case : {I : Type 0} → (I → Output) → Result I TextFault → Output
for_case output (Ok case) = output case
for_case output (Err fault) = refusal_output (refusal_text fault ++ 10 ∷ [])

-- the run of the case of a text gets stuck
abbrev pub StuckFor : {I : Type 0} → (I → Type 0) → Result I TextFault → Type 0
StuckFor stuck (Ok case) = stuck case
StuckFor stuck (Err fault) = ⊥
