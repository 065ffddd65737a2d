-- The words of a refusal, put as a line, are its text with a line end.
use Rattle.std.proofs.Common.{◌≡◌, ℕ, List, [], ◌∷◌, ◌++◌, codes, refl}
use Rattle.std.specs.Fmt.{decimal}
use Rattle.tw_report.specs.Words.{line}
use Rattle.tw_lines.specs.declared.text_fault.TextFault.{TextFault}
use Rattle.tw_lines.specs.FaultNames.{fault_label, refusal_text}

pub refusal_line : (fault : TextFault) (code name : List ℕ) → code ≡ (fault_label fault.fault).0 → name ≡ (fault_label fault.fault).1
    → line (codes "refused" ∷ codes "line" ∷ decimal fault.line ∷ code ∷ name ∷ []) ≡ refusal_text fault ++ 10 ∷ []
refusal_line fault code name is_code is_name = rw (is_code, is_name) refl
