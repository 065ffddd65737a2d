use Rattle.std.proofs.Common.{◌∙◌, ap, sym}
use Rattle.std.proofs.lemmas.List.{drop_all}
use Rattle.clap.specs.Words.{app_of, with_rule}
use Rattle.tw_options.specs.App.{with_options}
use Rattle.tw_options.proofs.Commands.{one_option_more}
use Rattle.tw_options.proofs.subcommand.Subcommand.command.Goals as goal

pub loop-option-preserved : goal.loop-option-preserved
loop-option-preserved c = (
  one_option_more
      (app_of c.loop-option.command)
      (app_of c.in_ok-command.command)
      c.args.self.now.options.now
      c.loop-option.option-index
      _
      c.loop-option-test.true
      (c.in_ok-command.ensures.shape c.arg.ensures.local ∙ ap (with_rule (app_of c.loop-option.command)) c.arg.ensures.rule)
      ∙ c.loop-option.invariant.0,
  rw (c.in_ok-command.ensures.globals, c.loop-option.invariant.1, c.arg.ensures.local),
)

pub returns-clause-app : goal.returns-clause-app
returns-clause-app c =
    ap (with_options (app_of c.loop-option.command)) (sym (drop_all c.loop-option.option-index c.args.self.now.options.now c.loop-option-test.false))
    ∙ c.loop-option.invariant.0
