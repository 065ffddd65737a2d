-- What the parser lets through. Own.
use Rattle.std.specs.Prelude.{◌≡◌, ◌⊎◌, ◌-◌, ℕ, List, Option, Some, None, codes}
use Rattle.clap.specs.Values.{IsUnsignedIn}
use Rattle.clap.specs.Words.{Row, Text, one_of}
use Rattle.tw_model.specs.declared.limits.TheConstants.{LATEST, MOST_ROUTERS, MOST_WORKERS}
use Rattle.tw_options.specs.declared.number.TheConstants.{MOST_BATCH}

-- the option id has a text, which is a numeral for a number in the bounds
abbrev pub HasNumber : Text → ℕ → ℕ → List Row → Type 0
HasNumber id least most rows = (text : Text) × (one_of id rows ≡ Some text) × IsUnsignedIn least most text

-- the option id has no text, or one that is a numeral for a number in the bounds
abbrev pub HasNumberIfGiven : Text → ℕ → ℕ → List Row → Type 0
HasNumberIfGiven id least most rows = (text : Text) → one_of id rows ≡ Some text → IsUnsignedIn least most text

-- the numbers that a report takes
pub record HasReport (rows : List Row) : Type 0 where
  pub stop : HasNumber (codes "stop") 1 LATEST rows
  pub every : HasNumberIfGiven (codes "every") 1 LATEST rows

-- the numbers that `run` takes
pub record HasRun (rows : List Row) : Type 0 where
  pub report : HasReport rows
  pub workers : HasNumberIfGiven (codes "workers") 1 MOST_WORKERS rows
  pub batch : HasNumberIfGiven (codes "batch") 1 MOST_BATCH rows

-- the numbers that `trail` takes
pub record HasTrail (rows : List Row) : Type 0 where
  pub router : HasNumber (codes "router") 0 (MOST_ROUTERS - 1) rows
  pub stop : HasNumber (codes "stop") 1 LATEST rows
  pub keep : HasNumber (codes "keep") 0 LATEST rows

-- the numbers that `replay` takes
pub record HasReplay (rows : List Row) : Type 0 where
  pub stop : HasNumber (codes "stop") 1 LATEST rows
  pub workers : HasNumberIfGiven (codes "workers") 1 MOST_WORKERS rows

-- a subcommand of ours was matched, with each option that it requires
pub record Fits (name : Text) (rows : List Row) : Type 0 where
  pub known : (name ≡ codes "check") ⊎ ((name ≡ codes "seq") ⊎ ((name ≡ codes "run") ⊎ ((name ≡ codes "trail") ⊎ ((name ≡ codes "replay") ⊎ (name ≡ codes "upgrade")))))
  pub seq : name ≡ codes "seq" → HasReport rows
  pub run : name ≡ codes "run" → HasRun rows
  pub trail : name ≡ codes "trail" → HasTrail rows
  pub replay : name ≡ codes "replay" → HasReplay rows

-- a subcommand was matched, and its name and rows have P
abbrev pub IsFound : (Text → List Row → Type 0) → Option (Text × List Row) → Type 0
IsFound P None = ⊥
IsFound P (Some found) = P found.0 found.1

-- a subcommand was matched, and fits
abbrev pub IsFit : Option (Text × List Row) → Type 0
IsFit = IsFound Fits
