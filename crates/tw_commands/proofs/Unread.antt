-- What a program leaves whose input could not be read.
use Rattle.std.proofs.Common.{◌≡◌, ◌⊎◌, ℕ, Bool, false, List, [], take, refl, Option, Some, None, Err, inl, inr}
use Rattle.std.proofs.KnownBytes.{Keeps-refl}
use Rattle.tw_commands.specs.Cause.{read_cause}
use Rattle.tw_commands.specs.Output.{IsUnread, Leaves, Output}
use Rattle.tw_device.specs.declared.failed.Failed.{Failed as AFailure}
use Rattle.tw_device.specs.Source.{IsCauseOf, IsInput}
use Rattle.tw_model.specs.declared.limits.TheConstants.{MOST_INPUT}
use Rattle.tw_model.specs.declared.memory.OrMemory.{OrMemory}
use Rattle.tw_model.specs.declared.memory.OrMemory.TheVariants.{Fault, Memory}

-- there is an input, read or not
pub some_input : (known : Option (List ℕ)) → (input : List ℕ) × IsInput known input
some_input None = ([], tt)
some_input (Some xs) = (take MOST_INPUT xs, refl)

-- nothing was written
pub unread : (fault : OrMemory AFailure) (output : Output) (stuck : Type 0) (old : Option (List ℕ)) (reader writer : Bool) → IsCauseOf fault reader → writer ≡ false
    → IsUnread (Err (read_cause fault)) old old reader writer ⊎ ((reader ≡ false) × Leaves (Err (read_cause fault)) output stuck old old writer)
unread (Fault f) output stuck old reader writer cause still = inl (record { device = refl; source = cause; sink = record { nothing = Keeps-refl old; still = still } })
unread Memory output stuck old reader writer cause still = inr (cause, record { nothing = Keeps-refl old; still = still })
