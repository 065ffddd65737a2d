-- The commands and options of `twarp-phold`, in the words of the parser's contracts. Own.
use Rattle.std.specs.Prelude.{false, true, codes}
use Rattle.clap.specs.Words.{App, Rule, Text, new_app, with_rule, with_subcommand}
use Rattle.tw_options.specs.App.{flag_rule, number_rule, program_app}
use Rattle.tw_phold_options.specs.declared.numbers.TheConstants.{MOST_DELAY, MOST_POPULATION, MOST_PROCESSES, MOST_SEED, MOST_STOP, MOST_WORKERS, WHOLE}

-- `--processes N`: how many processes there are
abbrev pub processes_rule : Rule
processes_rule = number_rule (codes "processes") false 1 MOST_PROCESSES

-- `--population N`: how many jobs each process begins with
abbrev pub population_rule : Rule
population_rule = number_rule (codes "population") false 0 MOST_POPULATION

-- `--lookahead N`: the shortest delay of a job
abbrev pub lookahead_rule : Rule
lookahead_rule = number_rule (codes "lookahead") false 1 MOST_DELAY

-- `--longest N`: the longest delay of a job
abbrev pub longest_rule : Rule
longest_rule = number_rule (codes "longest") false 1 MOST_DELAY

-- `--remote N`: of 1,000 jobs so many go to a process that is drawn
abbrev pub remote_rule : Rule
remote_rule = number_rule (codes "remote") false 0 WHOLE

-- `--seed N`: what all random words come from
abbrev pub seed_rule : Rule
seed_rule = number_rule (codes "seed") false 0 MOST_SEED

-- `--stop N`: the time before which jobs are handled
abbrev pub stop_rule : Rule
stop_rule = number_rule (codes "stop") true 1 MOST_STOP

-- `--workers N`: how many threads there are at most
abbrev pub workers_rule : Rule
workers_rule = number_rule (codes "workers") false 1 MOST_WORKERS

-- `--rounds`: it is run in rounds from the first tick to the stop
abbrev pub rounds_rule : Rule
rounds_rule = flag_rule (codes "rounds")

-- `--stats`: what was counted and how long it took is told on standard error
abbrev pub stats_rule : Rule
stats_rule = flag_rule (codes "stats")

-- a command of this name with the options that say how many jobs there are and how long they take
abbrev pub measured_app : Text → App
measured_app name = with_rule (with_rule (with_rule (with_rule (new_app name) processes_rule) population_rule) lookahead_rule) longest_rule

-- a command of this name with the options that say which PHOLD is run, and how far
abbrev pub asking_app : Text → App
asking_app name = with_rule (with_rule (with_rule (measured_app name) remote_rule) seed_rule) stop_rule

-- `twarp-phold seq --stop N [--processes N] [--population N] [--lookahead N] [--longest N] [--remote N] [--seed N] [--stats]`
abbrev pub seq_app : App
seq_app = with_rule (asking_app (codes "seq")) stats_rule

-- `twarp-phold run`, with the options of `seq`, [--workers N] and [--rounds]
abbrev pub run_app : App
run_app = with_rule (with_rule (with_rule (asking_app (codes "run")) workers_rule) rounds_rule) stats_rule

-- `twarp-phold` with its subcommands
abbrev pub phold_app : App
phold_app = with_subcommand (with_subcommand (program_app (codes "twarp-phold")) seq_app.top) run_app.top
