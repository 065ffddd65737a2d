-- What the words of a command line say, as the parser matched them. Own.
use Rattle.std.specs.Prelude.{◌≡◌, List, Option, Some, None, codes}
use Rattle.clap.specs.Words.{Row, Text}
use Rattle.tw_options.specs.Says.{IsNumberOr}
use Rattle.tw_policy_options.specs.declared.splits.TheConstants.{DEFAULT_SPLITS, MOST_SPLITS}
use Rattle.tw_policy_options.specs.declared.command_line.CommandLine.{CommandLine}
use Rattle.tw_policy_options.specs.declared.command_line.CommandLine.TheVariants.{Safe, Stable}

-- the command line is the subcommand that was matched, with the splits that were given, or the default
abbrev pub Says : Option (Text × List Row) → CommandLine → Type 0
Says None command = ⊥
Says (Some found) Safe = found.0 ≡ codes "safe"
Says (Some found) (Stable splits) =
    (found.0 ≡ codes "stable") × IsNumberOr (codes "splits") 0 MOST_SPLITS DEFAULT_SPLITS found.1 splits
