-- What was told of a text, by the text of the case.
use Rattle.std.proofs.Common.{◌≡◌, ◌↔◌, ℕ, List, Result, Ok, Err, IfOk, ap, sym, ◌∙◌}
use Rattle.tw_model.specs.Case.{Case, IsCase}
use Rattle.tw_model.specs.declared.memory.OrMemory.{OrMemory}
use Rattle.tw_model.specs.Memory.{IsUnlessMemory}
use Rattle.tw_lines.specs.declared.text_fault.TextFault.{TextFault}
use Rattle.tw_text.specs.Reading.{case_of}
use Rattle.tw_text.specs.Text.{text_of_case}
use Rattle.tw_text.proofs.Found.{case_of-is}
use Rattle.tw_text.proofs.Only.{case_of-text}

-- a text is read as a case exactly where it is the text of that case
pub case_exactly : (text : List ℕ) (c : Case) → (case_of text ≡ Ok c) ↔ (IsCase c × (text ≡ text_of_case c))
case_exactly text c = (case_of-is text c, λ h. ap case_of h.1 ∙ case_of-text c h.0)

pub found_told : (result : Result Case (OrMemory TextFault)) (text : List ℕ) → IsUnlessMemory result (case_of text) → IfOk result (λ c. IsCase c × (text ≡ text_of_case c))
found_told (Ok c) text h = case_of-is text c h
found_told (Err e) text h = tt

pub only_told : (result : Result Case (OrMemory TextFault)) (text : List ℕ) (c : Case) → IsCase c → text ≡ text_of_case c → IsUnlessMemory result (case_of text) → IsUnlessMemory result (Ok c)
only_told result text c is e h = rw ((case_exactly text c).1 (is, e)) at h

-- cases with one text are one
pub one_case : (c d : Case) → IsCase c → IsCase d → text_of_case c ≡ text_of_case d → c ≡ d
one_case c d p q e =
    let h = sym (case_of-text c p) ∙ ap case_of e ∙ case_of-text d q in let g : (let r : Result Case TextFault = Ok c in r ≡ Ok d) = h in cc
