-- One more option of a command, and one more command of a program.
use Rattle.std.proofs.Common.{◌≡◌, ◌∙◌, ap, ℕ, ◌+◌, ◌<◌, List, add-one, drop, drop-cons, get_or, length}
use Rattle.clap.specs.Words.{App, with_rule, with_subcommand}
use Rattle.tw_options.specs.App.{rule_of_option, subcommand_app, with_options, with_subcommands}
use Rattle.tw_options.specs.declared.subcommand.CommandOption.{CommandOption}
use Rattle.tw_options.specs.declared.subcommand.Subcommand.{Subcommand}

pub one_option_more : (a b : App) (options : List CommandOption) (i : ℕ) (d : CommandOption) → i < length options
    → b ≡ with_rule a (rule_of_option (get_or options i d)) → with_options b (drop (i + 1) options) ≡ with_options a (drop i options)
one_option_more a b options i d h e = ap (λ x. with_options x (drop (i + 1) options)) e ∙ rw (add-one, drop-cons options i d h)

pub one_subcommand_more : (a b : App) (subcommands : List Subcommand) (i : ℕ) (d : Subcommand) → i < length subcommands
    → b ≡ with_subcommand a (subcommand_app (get_or subcommands i d)).top
    → with_subcommands b (drop (i + 1) subcommands) ≡ with_subcommands a (drop i subcommands)
one_subcommand_more a b subcommands i d h e =
    ap (λ x. with_subcommands x (drop (i + 1) subcommands)) e ∙ rw (add-one, drop-cons subcommands i d h)
