-- What the words of a command line say, as the parser matched them. Own.
use Rattle.std.specs.Prelude.{◌≡◌, ◌⊎◌, ◌≤◌, ◌↔◌, ◌-◌, ℕ, Bool, true, false, IsTrue, List, Option, Some, None, codes}
use Rattle.std.specs.Str.Parse.{IsNumeral, digits_value, without_leading_plus}
use Rattle.clap.specs.Words.{Row, Text, one_of}
use Rattle.tw_model.specs.declared.limits.TheConstants.{LATEST, MOST_ROUTERS, MOST_WORKERS}
use Rattle.tw_options.specs.declared.number.TheConstants.{MOST_BATCH}
use Rattle.tw_options.specs.declared.command_line.CommandLine.{CommandLine}
use Rattle.tw_options.specs.declared.command_line.CommandLine.TheVariants.{Check, Seq, Run, Trail, Replay, Upgrade}
use Rattle.tw_options.specs.declared.command_line.Report.{Report as AReport}
use Rattle.tw_sim.specs.declared.machine.Cancel.{Cancel}
use Rattle.tw_sim.specs.declared.machine.Cancel.TheVariants.{Aggressive, Lazy}

-- n is the number given for the option id: its text is a decimal numeral for n, and n lies in the bounds
pub record IsNumberGiven (id : Text) (least most : ℕ) (rows : List Row) (n : ℕ) : Type 0 where
  pub text : Text
  pub given : one_of id rows ≡ Some text
  pub numeral : IsNumeral 10 (without_leading_plus text)
  pub value : n ≡ digits_value 10 (without_leading_plus text)
  pub low : least ≤ n
  pub high : n ≤ most

-- the number given for the option id, and `None` where none is given
abbrev pub IsNumberIfGiven : Text → ℕ → ℕ → List Row → Option ℕ → Type 0
IsNumberIfGiven id least most rows None = one_of id rows ≡ None
IsNumberIfGiven id least most rows (Some n) = IsNumberGiven id least most rows n

-- n is the number given for the option id, and the default where none is given
abbrev pub IsNumberOr : Text → ℕ → ℕ → ℕ → List Row → ℕ → Type 0
IsNumberOr id least most default rows n = ((one_of id rows ≡ None) × (n ≡ default)) ⊎ IsNumberGiven id least most rows n

-- the flag id is set exactly where its text is `true`
abbrev pub Sets : Text → List Row → Bool → Type 0
Sets id rows b = IsTrue b ↔ (one_of id rows ≡ Some (codes "true"))

-- what is taken back late is so by a flag
abbrev pub is_lazy : Cancel → Bool
is_lazy Aggressive = false
is_lazy Lazy = true

-- the report is the one that was asked for
pub record SaysReport (rows : List Row) (report : AReport) : Type 0 where
  pub stop : IsNumberGiven (codes "stop") 1 LATEST rows report.stop
  pub every : IsNumberIfGiven (codes "every") 1 LATEST rows report.every
  pub log : Sets (codes "log") rows report.log
  pub progress : Sets (codes "progress") rows report.progress
  pub stats : Sets (codes "stats") rows report.stats

-- the command line is the subcommand that was matched, with what was given for its options
abbrev pub Says : Option (Text × List Row) → CommandLine → Type 0
Says None command = ⊥
Says (Some found) Check = found.0 ≡ codes "check"
Says (Some found) (Seq report) = (found.0 ≡ codes "seq") × SaysReport found.1 report
Says (Some found) (Run asked) =
    (found.0 ≡ codes "run") × SaysReport found.1 asked.report × IsNumberIfGiven (codes "workers") 1 MOST_WORKERS found.1 asked.workers
    × IsNumberOr (codes "batch") 1 MOST_BATCH 64 found.1 asked.batch × Sets (codes "lazy") found.1 (is_lazy asked.cancel)
    × Sets (codes "blocks") found.1 asked.blocks × Sets (codes "rotate") found.1 asked.rotate
Says (Some found) (Trail trail) =
    (found.0 ≡ codes "trail") × IsNumberGiven (codes "router") 0 (MOST_ROUTERS - 1) found.1 trail.router
    × IsNumberGiven (codes "stop") 1 LATEST found.1 trail.stop × IsNumberGiven (codes "keep") 0 LATEST found.1 trail.keep
Says (Some found) (Replay machine) =
    (found.0 ≡ codes "replay") × IsNumberGiven (codes "stop") 1 LATEST found.1 machine.stop
    × IsNumberOr (codes "workers") 1 MOST_WORKERS 1 found.1 machine.workers × Sets (codes "lazy") found.1 (is_lazy machine.cancel)
Says (Some found) Upgrade = found.0 ≡ codes "upgrade"
