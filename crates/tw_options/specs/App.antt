-- The commands and options of `twarp`, in the words of the parser's contracts. Own.
use Rattle.std.specs.Prelude.{◌-◌, ℕ, Bool, List, [], ◌∷◌, Some, true, false, codes}
use Rattle.clap.specs.Words.{App, Rule, Text, new_app, new_rule, with_rule, with_subcommand}
use Rattle.clap.specs.declared.builder.action.ArgAction.TheVariants.{Set, SetTrue}
use Rattle.clap.specs.declared.builder.value_parser.ValueParser.TheVariants as vp
use Rattle.tw_model.specs.declared.limits.TheConstants.{LATEST, MOST_ROUTERS, MOST_WORKERS}
use Rattle.tw_options.specs.declared.subcommand.CommandOption.{CommandOption}
use Rattle.tw_options.specs.declared.subcommand.CommandOption.TheVariants as option
use Rattle.tw_options.specs.declared.subcommand.Subcommand.{Subcommand}
use Rattle.tw_options.specs.declared.number.TheConstants.{MOST_BATCH}

-- an option `--id`, which may be required, that takes a number from least to most
abbrev pub number_rule : Text → Bool → ℕ → ℕ → Rule
number_rule id is_required least most = record (new_rule id) {
  long = Some id;
  required = is_required;
  action = Some Set;
  value_names = 1;
  parser = Some (vp.Unsigned least most);
}

-- `--stop N`: the time before which events are handled
abbrev pub stop_rule : Rule
stop_rule = number_rule (codes "stop") true 1 LATEST

-- `--every T`: checkpoints are the multiples of this time
abbrev pub every_rule : Rule
every_rule = number_rule (codes "every") false 1 LATEST

-- a flag `--id`, which may be left out
abbrev pub flag_rule : Text → Rule
flag_rule id = record (new_rule id) { long = Some id; action = Some SetTrue }

-- `--log`: the report lists the events
abbrev pub log_rule : Rule
log_rule = flag_rule (codes "log")

-- `--lazy`: what an undone event has sent is taken back as late as may be
abbrev pub lazy_rule : Rule
lazy_rule = flag_rule (codes "lazy")

-- `--blocks`: the routers of a worker are a block of routers in a row
abbrev pub blocks_rule : Rule
blocks_rule = flag_rule (codes "blocks")

-- `--rotate`: at each checkpoint the routers go to the next worker
abbrev pub rotate_rule : Rule
rotate_rule = flag_rule (codes "rotate")

-- `--progress`: how far the run is, on standard error
abbrev pub progress_rule : Rule
progress_rule = flag_rule (codes "progress")

-- `--stats`: what was counted and how long it took is told behind the report
abbrev pub stats_rule : Rule
stats_rule = flag_rule (codes "stats")

-- `--router R`: the router whose last events are undone
abbrev pub router_rule : Rule
router_rule = number_rule (codes "router") true 0 (MOST_ROUTERS - 1)

-- `--keep K`: how many of its first events are not undone
abbrev pub keep_rule : Rule
keep_rule = number_rule (codes "keep") true 0 LATEST

-- `--workers W`: how many workers the routers are dealt out to
abbrev pub workers_rule : Rule
workers_rule = number_rule (codes "workers") false 1 MOST_WORKERS

-- `--batch B`: how many events a worker handles at most between two meetings
abbrev pub batch_rule : Rule
batch_rule = number_rule (codes "batch") false 1 MOST_BATCH

-- `twarp check`
abbrev pub check_app : App
check_app = new_app (codes "check")

-- a command with the options that say which run it is, and what of it is reported
abbrev pub reporting_app : Text → App
reporting_app name = with_rule (with_rule (with_rule (new_app name) stop_rule) every_rule) log_rule

-- `twarp seq --stop N [--every T] [--log] [--progress] [--stats]`
abbrev pub seq_app : App
seq_app = with_rule (with_rule (reporting_app (codes "seq")) progress_rule) stats_rule

-- `twarp run` with the options that say how workers go on
abbrev pub run_app_by_workers : App
run_app_by_workers = with_rule (with_rule (with_rule (reporting_app (codes "run")) workers_rule) batch_rule) lazy_rule

-- `twarp run --stop N [--every T] [--log] [--workers W] [--batch B] [--lazy] [--blocks] [--rotate] [--progress] [--stats]`
abbrev pub run_app : App
run_app = with_rule (with_rule (with_rule (with_rule run_app_by_workers blocks_rule) rotate_rule) progress_rule) stats_rule

-- `twarp trail --router R --stop S --keep K`
abbrev pub trail_app : App
trail_app = with_rule (with_rule (with_rule (new_app (codes "trail")) router_rule) stop_rule) keep_rule

-- `twarp replay --stop N [--workers W] [--lazy]`
abbrev pub replay_app : App
replay_app = with_rule (with_rule (with_rule (new_app (codes "replay")) stop_rule) workers_rule) lazy_rule

-- `twarp upgrade`
abbrev pub upgrade_app : App
upgrade_app = new_app (codes "upgrade")

-- a program that asks for a subcommand, and has a version that it tells at `--version` and `-V`
abbrev pub program_app : Text → App
program_app name = let a = new_app name in record a { top = record a.top { subcommand_required = true; has_version = true } }

-- the rule of an option
abbrev pub rule_of_option : CommandOption → Rule
rule_of_option (option.Number o) = number_rule o.id.now o.is_required o.least o.most
rule_of_option (option.Flag o) = flag_rule o.id.now

-- a command with these options behind its other ones
abbrev pub with_options : App → List CommandOption → App
with_options command [] = command
with_options command (o ∷ options) = with_options (with_rule command (rule_of_option o)) options

-- a command of a program
abbrev pub subcommand_app : Subcommand → App
subcommand_app s = with_options (new_app s.page.name.now) s.options.now

-- a program with these commands behind its other ones
abbrev pub with_subcommands : App → List Subcommand → App
with_subcommands program [] = program
with_subcommands program (s ∷ subcommands) = with_subcommands (with_subcommand program (subcommand_app s).top) subcommands

-- `twarp` alone
abbrev pub top_app : App
top_app = program_app (codes "twarp")

-- `twarp` with the subcommands that check a case and report its run
abbrev pub report_app : App
report_app = with_subcommand (with_subcommand (with_subcommand top_app check_app.top) seq_app.top) run_app.top

-- `twarp` with its subcommands
abbrev pub twarp_app : App
twarp_app = with_subcommand (with_subcommand (with_subcommand report_app trail_app.top) replay_app.top) upgrade_app.top
