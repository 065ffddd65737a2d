-- What the parser lets through. Own.
use Rattle.std.specs.Prelude.{◌≡◌, ◌⊎◌, List, Option, codes}
use Rattle.clap.specs.Words.{Row, Text}
use Rattle.tw_options.specs.Fit.{HasNumber, HasNumberIfGiven, IsFound}
use Rattle.tw_phold_options.specs.declared.numbers.TheConstants.{MOST_DELAY, MOST_POPULATION, MOST_PROCESSES, MOST_SEED, MOST_STOP, MOST_WORKERS, WHOLE}

-- the numbers that say which PHOLD is run, and how far
pub record HasPhold (rows : List Row) : Type 0 where
  pub processes : HasNumberIfGiven (codes "processes") 1 MOST_PROCESSES rows
  pub population : HasNumberIfGiven (codes "population") 0 MOST_POPULATION rows
  pub lookahead : HasNumberIfGiven (codes "lookahead") 1 MOST_DELAY rows
  pub longest : HasNumberIfGiven (codes "longest") 1 MOST_DELAY rows
  pub remote : HasNumberIfGiven (codes "remote") 0 WHOLE rows
  pub seed : HasNumberIfGiven (codes "seed") 0 MOST_SEED rows
  pub stop : HasNumber (codes "stop") 1 MOST_STOP rows

-- a subcommand of ours was matched, with each option that it requires
pub record Fits (name : Text) (rows : List Row) : Type 0 where
  pub known : (name ≡ codes "seq") ⊎ (name ≡ codes "run")
  pub phold : HasPhold rows
  pub workers : name ≡ codes "run" → HasNumberIfGiven (codes "workers") 1 MOST_WORKERS rows

-- a subcommand was matched, and fits
abbrev pub IsFit : Option (Text × List Row) → Type 0
IsFit = IsFound Fits
