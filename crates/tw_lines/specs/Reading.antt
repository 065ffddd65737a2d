-- Reading a whole text, line by line (own).
use Rattle.std.specs.Prelude.{ℕ, suc, ◌==◌, true, false, List, [], ◌∷◌, length, if◌then◌else◌, Option, Some, None, Result, Ok, Err}
use Rattle.std.specs.Result.{result_map_both}
use Rattle.tw_lines.specs.declared.text_fault.LineFault.{LineFault}
use Rattle.tw_lines.specs.declared.text_fault.LineFault.TheVariants.{End}
use Rattle.tw_lines.specs.declared.text_fault.TextFault.{TextFault}
use Rattle.tw_lines.specs.LineReader.{TextReader}
use Rattle.tw_lines.specs.Words.{parts_of}

-- the first fault, or what follows
infixl 10 ◌>>=◌
abbrev pub ◌>>=◌ : {A B E : Type 0} → Result A E → (A → Result B E) → Result B E
(Ok x) >>= f = f x
(Err e) >>= f = Err e

-- the fault of line k
abbrev pub fault_at : ℕ → LineFault → TextFault
fault_at k fault = record { line = k; fault = fault }

-- what line k gave
abbrev pub at_line : {A : Type 0} → ℕ → Result A LineFault → Result A TextFault
at_line k given = result_map_both (λ a. a) (fault_at k) given

-- what the lines have given, where they are whole; else line k is missing
abbrev pub whole_at : {A : Type 0} → ℕ → Option A → Result A TextFault
whole_at k (Some a) = Ok a
whole_at k None = Err (fault_at k End)

-- what follows the last line end, as line k: nothing, or a line with a fault
abbrev pub finishes : {D A : Type 0} → TextReader D A → D → ℕ → List ℕ → Result A TextFault
finishes r d k rest = if length rest == 0 then whole_at k (r.whole d) else at_line k (r.step d rest false) >>= λ _. Err (fault_at k End)

-- the parts of a text, one at least, of which the first is line k: ended lines, and what follows the last line end
unfoldable pub reads : {D A : Type 0} → TextReader D A → D → ℕ → List (List ℕ) → Result A TextFault
reads r d k [] = Err (fault_at k End)
reads r d k (rest ∷ []) = finishes r d k rest
reads r d k (line ∷ next ∷ parts) = at_line k (r.step d line true) >>= λ after. reads r after (suc k) (next ∷ parts)

-- what a text gives that begins with d, or its first line with a fault, and the lowest fault of that line
abbrev pub read_from : {D A : Type 0} → TextReader D A → D → List ℕ → Result A TextFault
read_from r d text = reads r d 1 (parts_of text)
