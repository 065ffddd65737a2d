-- What a command line says can be run.
use Rattle.std.proofs.Common.{◌≤◌, List, Option, Some, None, arith}
use Rattle.clap.specs.Words.{Row, Text}
use Rattle.tw_phold_options.specs.declared.command_line.CommandLine.{CommandLine}
use Rattle.tw_phold_options.specs.Says.{Says}
use Rattle.tw_process.specs.declared.limits.TheConstants.{LATEST}

pub runnable : (found : Option (Text × List Row)) (line : CommandLine) → Says found line → line.stop ≤ LATEST
runnable None line h = absurd h
runnable (Some f) line h = let most = h.1.stop.high in omega arith
