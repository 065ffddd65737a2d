-- Reading a whole case text, line by line (own).
use Rattle.std.specs.Prelude.{ℕ, List, Option, Some, None, Result}
use Rattle.tw_model.specs.Case.{Case}
use Rattle.tw_lines.specs.declared.text_fault.TextFault.{TextFault}
use Rattle.tw_lines.specs.LineReader.{TextReader}
use Rattle.tw_lines.specs.Reading.{read_from}
use Rattle.tw_text.specs.declared.draft.Draft.{Draft}
use Rattle.tw_text.specs.declared.draft.Draft.TheVariants.{Start, Done}
use Rattle.tw_text.specs.FaultTable.{draft_after}

-- the case, where the last line was read
abbrev pub whole_case : Draft → Option Case
whole_case (Done case) = Some case
whole_case d = None

-- how a case text is read
abbrev pub case_reader : TextReader Draft Case
case_reader = record { step = draft_after; whole = whole_case }

-- the case of a text, or its first line with a fault, and the lowest fault of that line
unfoldable pub case_of : List ℕ → Result Case TextFault
case_of text = read_from case_reader Start text
