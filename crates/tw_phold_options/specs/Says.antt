-- What the words of a command line say, as the parser matched them. Own.
use Rattle.std.specs.Prelude.{◌≡◌, true, false, List, Option, Some, None, codes}
use Rattle.clap.specs.Words.{Row, Text}
use Rattle.tw_options.specs.Says.{IsNumberGiven, IsNumberOr, Sets}
use Rattle.tw_phold_options.specs.declared.command_line.By.{By}
use Rattle.tw_phold_options.specs.declared.command_line.By.TheVariants.{OneThread, Workers, Rounds}
use Rattle.tw_phold_options.specs.declared.command_line.CommandLine.{CommandLine}
use Rattle.tw_phold_options.specs.declared.numbers.TheConstants.{LONGEST_IF_NONE, LOOKAHEAD_IF_NONE, MOST_DELAY, MOST_POPULATION, MOST_PROCESSES, MOST_SEED, MOST_STOP, POPULATION_IF_NONE, PROCESSES_IF_NONE, REMOTE_IF_NONE, SEED_IF_NONE, MOST_WORKERS, WORKERS_IF_NONE, WHOLE}

-- the command line has the numbers that were given, or what is there where none was
pub record SaysPhold (rows : List Row) (line : CommandLine) : Type 0 where
  pub processes : IsNumberOr (codes "processes") 1 MOST_PROCESSES PROCESSES_IF_NONE rows line.processes
  pub population : IsNumberOr (codes "population") 0 MOST_POPULATION POPULATION_IF_NONE rows line.population
  pub lookahead : IsNumberOr (codes "lookahead") 1 MOST_DELAY LOOKAHEAD_IF_NONE rows line.lookahead
  pub longest : IsNumberOr (codes "longest") 1 MOST_DELAY LONGEST_IF_NONE rows line.longest
  pub remote : IsNumberOr (codes "remote") 0 WHOLE REMOTE_IF_NONE rows line.remote
  pub seed : IsNumberOr (codes "seed") 0 MOST_SEED SEED_IF_NONE rows line.seed
  pub stop : IsNumberGiven (codes "stop") 1 MOST_STOP rows line.stop
  pub stats : Sets (codes "stats") rows line.stats

-- who runs it is the subcommand that was matched, with the workers that were given, or those that are there where none were, in rounds
-- exactly where that flag is set
abbrev pub SaysBy : Text → List Row → By → Type 0
SaysBy name rows OneThread = name ≡ codes "seq"
SaysBy name rows (Workers n) = (name ≡ codes "run") × IsNumberOr (codes "workers") 1 MOST_WORKERS WORKERS_IF_NONE rows n × Sets (codes "rounds") rows false
SaysBy name rows (Rounds n) = (name ≡ codes "run") × IsNumberOr (codes "workers") 1 MOST_WORKERS WORKERS_IF_NONE rows n × Sets (codes "rounds") rows true

-- the command line is what was matched
abbrev pub Says : Option (Text × List Row) → CommandLine → Type 0
Says None line = ⊥
Says (Some found) line = SaysBy found.0 found.1 line.by × SaysPhold found.1 line
