-- What words say is told by their first two faults: they are none of a line, or one of them is no number.
use Rattle.std.proofs.Common.{Bool, true, false, if◌then◌else◌, Result, Ok, Err}
use Rattle.tw_lines.specs.declared.text_fault.LineFault.{LineFault}
use Rattle.tw_lines.specs.declared.text_fault.LineFault.TheVariants as x
use Rattle.tw_lines.specs.Reading.{◌>>=◌}

-- words say something, or are none of a line, or have a word that is no number
abbrev pub IsToldEarly : {S : Type 0} → Result S LineFault → Type 0
IsToldEarly (Ok s) = Unit {0}
IsToldEarly (Err x.Word) = Unit {0}
IsToldEarly (Err x.Number) = Unit {0}
IsToldEarly (Err fault) = ⊥

pub early_if : {S : Type 0} (b : Bool) (p q : Result S LineFault) → IsToldEarly p → IsToldEarly q → IsToldEarly (if b then p else q)
early_if true p q h g = h
early_if false p q h g = g

pub early_on : {S T : Type 0} (read : Result S LineFault) (f : S → Result T LineFault) → IsToldEarly read → ((s : S) → IsToldEarly (f s)) → IsToldEarly (read >>= f)
early_on (Ok s) f h g = g s
early_on (Err x.Word) f h g = tt
early_on (Err x.Number) f h g = tt
early_on (Err fault) f h g = absurd h
