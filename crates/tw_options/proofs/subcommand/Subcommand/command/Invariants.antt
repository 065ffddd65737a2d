use Rattle.std.proofs.Common.{◌≡◌, false, drop}
use Rattle.clap.specs.Words.{app_of}
use Rattle.clap.specs.declared.builder.command.Command.TheViews.{out-Command as fields_of}
use Rattle.tw_options.specs.App.{subcommand_app, with_options}
use Rattle.tw_options.proofs.subcommand.Subcommand.command.Given as goal

abbrev pub invariant-loop-option : goal.invariant-loop-option
invariant-loop-option l =
    (with_options (app_of l.command) (drop l.option-index l.self.options.now) ≡ subcommand_app l.self)
    × ((fields_of l.command).has_globals ≡ false)
