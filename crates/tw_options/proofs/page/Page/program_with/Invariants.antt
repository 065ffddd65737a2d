use Rattle.std.proofs.Common.{◌≡◌, drop}
use Rattle.clap.specs.Words.{app_of}
use Rattle.tw_options.specs.App.{program_app, with_subcommands}
use Rattle.tw_options.proofs.page.Page.program_with.Given as goal

abbrev pub invariant-loop-subcommand : goal.invariant-loop-subcommand
invariant-loop-subcommand l =
    with_subcommands (app_of l.program) (drop l.subcommand-index l.subcommands) ≡ with_subcommands (program_app l.self.name.now) l.subcommands
