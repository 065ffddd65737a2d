-- What a device gives, where that is known (own).
use Rattle.std.specs.Prelude.{ℕ, ◌≡◌, ◌≤◌, Bool, false, true, List, drop, length, take, Option, Some, None}
use Rattle.std.specs.Io.KnownBytes.{Consumes}
use Rattle.tw_device.specs.declared.failed.Failed.{Failed as AFailure}
use Rattle.tw_model.specs.declared.limits.TheConstants.{MOST_INPUT}
use Rattle.tw_model.specs.declared.memory.OrMemory.{OrMemory}
use Rattle.tw_model.specs.declared.memory.OrMemory.TheVariants.{Fault, Memory}

-- what a device will give, and whether it has failed
pub record Reader : Type 0 where
  pub remaining : Option (List ℕ)
  pub failed : Bool

-- of known bytes these are the first, as many as a program reads
abbrev pub IsInput : Option (List ℕ) → List ℕ → Type 0
IsInput None bytes = Unit {0}
IsInput (Some xs) bytes = bytes ≡ take MOST_INPUT xs

-- known bytes lose their first, as many as a program reads
abbrev pub LosesInput : Option (List ℕ) → Option (List ℕ) → Type 0
LosesInput None new = Unit {0}
LosesInput (Some xs) None = ⊥
LosesInput (Some xs) (Some ys) = ys ≡ drop MOST_INPUT xs

-- known bytes lose a prefix, of at most as many as a program reads
abbrev pub TakesInput : Option (List ℕ) → Option (List ℕ) → Type 0
TakesInput old new = (bytes : List ℕ) × (length bytes ≤ MOST_INPUT) × Consumes old new bytes

-- why reading stopped, and whether the device has failed
abbrev pub IsCauseOf : OrMemory AFailure → Bool → Type 0
IsCauseOf (Fault f) failed = failed ≡ true
IsCauseOf Memory failed = failed ≡ false
