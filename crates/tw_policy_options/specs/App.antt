-- The commands and options of `twarp-policy`, in the words of the parser's contracts. Own.
use Rattle.std.specs.Prelude.{false, codes}
use Rattle.clap.specs.Words.{App, Rule, new_app, with_rule, with_subcommand}
use Rattle.tw_options.specs.App.{number_rule, program_app}
use Rattle.tw_policy_options.specs.declared.splits.TheConstants.{MOST_SPLITS}

-- `--splits N`: how many splits are made at most
abbrev pub splits_rule : Rule
splits_rule = number_rule (codes "splits") false 0 MOST_SPLITS

-- `twarp-policy safe`
abbrev pub safe_app : App
safe_app = new_app (codes "safe")

-- `twarp-policy stable [--splits N]`
abbrev pub stable_app : App
stable_app = with_rule (new_app (codes "stable")) splits_rule

-- `twarp-policy` with its subcommands
abbrev pub policy_app : App
policy_app = with_subcommand (with_subcommand (program_app (codes "twarp-policy")) safe_app.top) stable_app.top
