-- At words that the parser takes, the matches have what each subcommand of `twarp-phold` requires.
use Rattle.std.proofs.Common.{◌≡◌, inl, inr, refl, true, codes, [], ◌∷◌}
use Rattle.std.specs.List.{AllByRecursion}
use Rattle.clap.proofs.OnLiterals.{clap_on_literals}
use Rattle.clap.specs.Simple.{built, is_simple}
use Rattle.clap.specs.Words.{Text, fault_of, is_simple_and_free}
use Rattle.clap.specs.declared.error.kind.ErrorKind.TheVariants as kind
use Rattle.tw_options.proofs.Levels.{LevelFits, differ, has_number, has_number_if_given, help_fits, leaf}
use Rattle.tw_phold_options.specs.App.{phold_app, run_app, seq_app}
use Rattle.tw_phold_options.specs.Fit.{Fits}
use Rattle.tw_phold_options.specs.declared.numbers.TheConstants.{MOST_DELAY, MOST_POPULATION, MOST_PROCESSES, MOST_SEED, MOST_STOP, MOST_WORKERS, WHOLE}

seq_fits : LevelFits Fits (leaf phold_app seq_app.top)
seq_fits name words named other f = record {
  known = inl refl;
  phold = record {
    processes = has_number_if_given (leaf phold_app seq_app.top) refl words f (codes "processes") 1 MOST_PROCESSES 0 (refl, refl);
    population = has_number_if_given (leaf phold_app seq_app.top) refl words f (codes "population") 0 MOST_POPULATION 1 (refl, (refl, refl));
    lookahead = has_number_if_given (leaf phold_app seq_app.top) refl words f (codes "lookahead") 1 MOST_DELAY 2 (refl, (refl, (refl, refl)));
    longest = has_number_if_given (leaf phold_app seq_app.top) refl words f (codes "longest") 1 MOST_DELAY 3 (refl, (refl, (refl, (refl, refl))));
    remote = has_number_if_given (leaf phold_app seq_app.top) refl words f (codes "remote") 0 WHOLE 4 (refl, (refl, (refl, (refl, (refl, refl)))));
    seed = has_number_if_given (leaf phold_app seq_app.top) refl words f (codes "seed") 0 MOST_SEED 5 (refl, (refl, (refl, (refl, (refl, (refl, refl))))));
    stop = has_number (leaf phold_app seq_app.top) refl words f (codes "stop") 1 MOST_STOP 6 (refl, (refl, (refl, (refl, (refl, (refl, (refl, refl)))))));
  };
  workers = λ e. absurd (differ (codes "seq") (codes "run") refl e);
}

run_fits : LevelFits Fits (leaf phold_app run_app.top)
run_fits name words named other f = record {
  known = inr refl;
  phold = record {
    processes = has_number_if_given (leaf phold_app run_app.top) refl words f (codes "processes") 1 MOST_PROCESSES 0 (refl, refl);
    population = has_number_if_given (leaf phold_app run_app.top) refl words f (codes "population") 0 MOST_POPULATION 1 (refl, (refl, refl));
    lookahead = has_number_if_given (leaf phold_app run_app.top) refl words f (codes "lookahead") 1 MOST_DELAY 2 (refl, (refl, (refl, refl)));
    longest = has_number_if_given (leaf phold_app run_app.top) refl words f (codes "longest") 1 MOST_DELAY 3 (refl, (refl, (refl, (refl, refl))));
    remote = has_number_if_given (leaf phold_app run_app.top) refl words f (codes "remote") 0 WHOLE 4 (refl, (refl, (refl, (refl, (refl, refl)))));
    seed = has_number_if_given (leaf phold_app run_app.top) refl words f (codes "seed") 0 MOST_SEED 5 (refl, (refl, (refl, (refl, (refl, (refl, refl))))));
    stop = has_number (leaf phold_app run_app.top) refl words f (codes "stop") 1 MOST_STOP 6 (refl, (refl, (refl, (refl, (refl, (refl, (refl, refl)))))));
  };
  workers = λ _. has_number_if_given (leaf phold_app run_app.top) refl words f (codes "workers") 1 MOST_WORKERS 7 (refl, (refl, (refl, (refl, (refl, (refl, (refl, (refl, refl))))))));
}

pub all_fit : AllByRecursion (LevelFits Fits) (built phold_app).subs
all_fit = (seq_fits, (run_fits, (help_fits Fits, tt)))

pub simple : is_simple phold_app ≡ true
simple = refl

pub free : is_simple_and_free phold_app ≡ true
free = refl

pub long_version : (name : Text) → fault_of phold_app (name ∷ codes "--version" ∷ []) ≡ kind.DisplayVersion ∷ []
unfolding clap_on_literals
long_version name = refl

pub short_version : (name : Text) → fault_of phold_app (name ∷ codes "-V" ∷ []) ≡ kind.DisplayVersion ∷ []
unfolding clap_on_literals
short_version name = refl
