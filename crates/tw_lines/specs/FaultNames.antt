-- The codes and the names of faults, and the words of a refusal (own; the table stands in docs/FORMATS.md).
use Rattle.std.specs.Prelude.{ℕ, List, ◌++◌, codes, decimal}
use Rattle.tw_model.specs.declared.rule.Rule.{Rule}
use Rattle.tw_model.specs.declared.rule.Rule.TheVariants as rule
use Rattle.tw_lines.specs.declared.text_fault.LineFault.{LineFault}
use Rattle.tw_lines.specs.declared.text_fault.LineFault.TheVariants as x
use Rattle.tw_lines.specs.declared.text_fault.TextFault.{TextFault}

-- the code and the name of a rule
abbrev pub rule_label : Rule → List ℕ × List ℕ
rule_label rule.Range = (codes "I1", codes "Range")
rule_label rule.SelfLink = (codes "I2", codes "SelfLink")
rule_label rule.TwiceLink = (codes "I3", codes "TwiceLink")
rule_label rule.Delay = (codes "I4", codes "Delay")
rule_label rule.PathOwner = (codes "I5", codes "PathOwner")
rule_label rule.PathEnd = (codes "I6", codes "PathEnd")
rule_label rule.PathRepeats = (codes "I7", codes "PathRepeats")
rule_label rule.PathNoLink = (codes "I8", codes "PathNoLink")
rule_label rule.TwicePath = (codes "I9", codes "TwicePath")
rule_label rule.TooMany = (codes "I10", codes "TooMany")
rule_label rule.NoSuchLink = (codes "I11", codes "NoSuchLink")
rule_label rule.NoSuchPlace = (codes "I12", codes "NoSuchPlace")
rule_label rule.Time = (codes "I13", codes "Time")
rule_label rule.Version = (codes "I14", codes "Version")

-- the code and the name of a fault of a line
abbrev pub fault_label : LineFault → List ℕ × List ℕ
fault_label x.Byte = (codes "X1", codes "Byte")
fault_label x.Header = (codes "X2", codes "Header")
fault_label x.Word = (codes "X3", codes "Word")
fault_label x.Number = (codes "X4", codes "Number")
fault_label x.Order = (codes "X5", codes "Order")
fault_label x.End = (codes "X6", codes "End")
fault_label (x.Rule r) = rule_label r

-- the code and the name, as they are written
abbrev pub fault_text : LineFault → List ℕ
fault_text fault = (fault_label fault).0 ++ (codes " " ++ (fault_label fault).1)

-- where and why a text is refused
abbrev pub refusal_text : TextFault → List ℕ
refusal_text refusal = codes "refused line " ++ (decimal refusal.line ++ (codes " " ++ fault_text refusal.fault))
