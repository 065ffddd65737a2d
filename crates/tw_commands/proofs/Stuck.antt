-- What a program leaves whose run did not reach its stop.
use Rattle.std.proofs.Common.{◌≡◌, ℕ, Bool, false, List, Option, Err, refl}
use Rattle.std.proofs.KnownBytes.{Keeps-refl}
use Rattle.tw_commands.specs.Cause.{run_cause}
use Rattle.tw_commands.specs.Output.{Leaves, Output}
use Rattle.tw_handlers.specs.declared.fault.CounterFull.{CounterFull as AFullCounter}
use Rattle.tw_model.specs.declared.memory.OrMemory.{OrMemory}
use Rattle.tw_model.specs.declared.memory.OrMemory.TheVariants.{Fault, Memory}

pub leaves_fault : (fault : OrMemory AFullCounter) (output : Output) (stuck : Type 0) (old : Option (List ℕ)) (failed : Bool) → failed ≡ false
    → (fault ≡ Fault (record {}) → stuck) → Leaves (Err (run_cause fault)) output stuck old old failed
leaves_fault (Fault f) output stuck old failed still told = (told refl, record { nothing = Keeps-refl old; still = still })
leaves_fault Memory output stuck old failed still told = record { nothing = Keeps-refl old; still = still }
