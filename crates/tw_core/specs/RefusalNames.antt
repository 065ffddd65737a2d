-- The codes and the names of refusals (own; the table stands in docs/FORMATS.md).
use Rattle.std.specs.Prelude.{ℕ, List, codes}
use Rattle.tw_core.specs.declared.refusal.Refusal.{Refusal}
use Rattle.tw_core.specs.declared.refusal.Refusal.TheVariants.{NotMine, Nothing, Double, AheadFull, Committed, NoMessage, CounterFull}

-- the code and the name of a refusal
abbrev pub refusal_label : Refusal → List ℕ × List ℕ
refusal_label NotMine = (codes "S1", codes "NotMine")
refusal_label Nothing = (codes "S2", codes "Nothing")
refusal_label Double = (codes "S3", codes "Double")
refusal_label AheadFull = (codes "S4", codes "AheadFull")
refusal_label Committed = (codes "S5", codes "Committed")
refusal_label NoMessage = (codes "K1", codes "NoMessage")
refusal_label CounterFull = (codes "H2", codes "CounterFull")
