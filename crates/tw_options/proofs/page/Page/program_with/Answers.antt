use Rattle.std.proofs.Common.{◌∙◌, ap, sym}
use Rattle.std.proofs.lemmas.List.{drop_all}
use Rattle.clap.specs.Words.{app_of}
use Rattle.tw_options.specs.App.{with_subcommands}
use Rattle.tw_options.proofs.Commands.{one_subcommand_more}
use Rattle.tw_options.proofs.page.Page.program_with.Goals as goal

pub loop-subcommand-preserved : goal.loop-subcommand-preserved
loop-subcommand-preserved c =
    one_subcommand_more
    (app_of c.loop-subcommand.program)
    (app_of c.in_ok-program.program)
    c.args.subcommands.now
    c.loop-subcommand.subcommand-index
    _
    c.loop-subcommand-test.true
    c.in_ok-program.ensures
    ∙ c.loop-subcommand.invariant

pub returns : goal.returns
returns c =
    ap (with_subcommands (app_of c.loop-subcommand.program)) (sym (drop_all c.loop-subcommand.subcommand-index c.args.subcommands.now c.loop-subcommand-test.false))
    ∙ c.loop-subcommand.invariant
