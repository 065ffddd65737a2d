-- How texts are read (own).
use Rattle.std.specs.Prelude.{ℕ, Bool, List, Option, Result}
use Rattle.std.specs.Result.{result_map_both}
use Rattle.tw_lines.specs.declared.text_fault.LineFault.{LineFault}

-- how one kind of text is read, line by line: what a line, ended or not, makes of what those before it gave; and what they all gave, where none is missing
pub record TextReader (D A : Type 0) : Type 0 where
  pub step : D → List ℕ → Bool → Result D LineFault
  pub whole : D → Option A

-- what a line left that was read in place, where it has no fault
abbrev pub left_by : {D E : Type 0} → Result (Unit {0}) E → D → Result D E
left_by result after = result_map_both (λ u. after) (λ e. e) result
