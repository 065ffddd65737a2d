-- What a command line says can be run.
use Rattle.std.proofs.Common.{◌≡◌, ℕ, ◌<◌, ◌≤◌, List, Option, Some, None, inl, inr, arith}
use Rattle.std.specs.Prelude.{IfSome}
use Rattle.clap.specs.Words.{Row, Text}
use Rattle.tw_model.specs.declared.limits.TheConstants.{LATEST}
use Rattle.tw_options.specs.declared.command_line.CommandLine.{CommandLine}
use Rattle.tw_options.specs.declared.command_line.CommandLine.TheVariants.{Check, Seq, Run, Trail, Replay, Upgrade}
use Rattle.tw_options.specs.Says.{IsNumberIfGiven, IsNumberOr, Says}
use Rattle.twarp.specs.Due.{IsRunnable}

every_in : (id : Text) (rows : List Row) (every : Option ℕ) → IsNumberIfGiven id 1 LATEST rows every → IfSome every (λ n. (0 < n) × (n ≤ LATEST))
every_in id rows None h = tt
every_in id rows (Some n) h = let low = h.low in (omega arith, h.high)

told_in : (id : Text) (most : ℕ) (rows : List Row) (workers : Option ℕ) → IsNumberIfGiven id 1 most rows workers → IfSome workers (λ n. 0 < n)
told_in id most rows None h = tt
told_in id most rows (Some n) h = let low = h.low in omega arith

some_in : (id : Text) (most default : ℕ) (rows : List Row) (n : ℕ) → 0 < default → IsNumberOr id 1 most default rows n → 0 < n
some_in id most default rows n some (inl h) = let is = h.1 in omega arith
some_in id most default rows n some (inr h) = let low = h.low in omega arith

pub runnable : (found : Option (Text × List Row)) (line : CommandLine) → Says found line → IsRunnable line
runnable None line h = absurd h
runnable (Some f) Check h = tt
runnable (Some f) (Seq report) h = (h.1.stop.high, every_in _ f.1 report.every h.1.every)
runnable (Some f) (Run asked) h = record {
  stop = h.1.stop.high;
  every = every_in _ f.1 asked.report.every h.1.every;
  workers = told_in _ _ f.1 asked.workers h.2;
}
runnable (Some f) (Trail trail) h = h.2.high
runnable (Some f) (Replay machine) h = (h.1.high, some_in _ _ _ f.1 machine.workers (omega arith) h.2)
runnable (Some f) Upgrade h = tt
