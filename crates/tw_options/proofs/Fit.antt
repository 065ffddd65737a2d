-- At words that the parser takes, the matches have what each subcommand of `twarp` requires.
use Rattle.std.specs.Prelude.{◌-◌}
use Rattle.std.proofs.Common.{◌≡◌, inl, inr, refl, true, codes, [], ◌∷◌}
use Rattle.std.specs.List.{AllByRecursion}
use Rattle.clap.proofs.OnLiterals.{clap_on_literals}
use Rattle.clap.specs.Simple.{built, is_simple}
use Rattle.clap.specs.Words.{Text, fault_of, is_simple_and_free}
use Rattle.clap.specs.declared.error.kind.ErrorKind.TheVariants as kind
use Rattle.tw_model.specs.declared.limits.TheConstants.{LATEST, MOST_ROUTERS, MOST_WORKERS}
use Rattle.tw_options.specs.App.{check_app, replay_app, run_app, seq_app, trail_app, twarp_app, upgrade_app}
use Rattle.tw_options.specs.Fit.{Fits}
use Rattle.tw_options.specs.declared.number.TheConstants.{MOST_BATCH}
use Rattle.tw_options.proofs.Levels.{LevelFits, differ, has_number, has_number_if_given, help_fits, leaf}

check_fits : LevelFits Fits (leaf twarp_app check_app.top)
check_fits name words named other f = record {
  known = inl refl;
  seq = λ e. absurd (differ (codes "check") (codes "seq") refl e);
  run = λ e. absurd (differ (codes "check") (codes "run") refl e);
  trail = λ e. absurd (differ (codes "check") (codes "trail") refl e);
  replay = λ e. absurd (differ (codes "check") (codes "replay") refl e);
}

seq_fits : LevelFits Fits (leaf twarp_app seq_app.top)
seq_fits name words named other f = record {
  known = inr (inl refl);
  seq = λ _. record {
    stop = has_number (leaf twarp_app seq_app.top) refl words f (codes "stop") 1 LATEST 0 (refl, refl);
    every = has_number_if_given (leaf twarp_app seq_app.top) refl words f (codes "every") 1 LATEST 1 (refl, (refl, refl));
  };
  run = λ e. absurd (differ (codes "seq") (codes "run") refl e);
  trail = λ e. absurd (differ (codes "seq") (codes "trail") refl e);
  replay = λ e. absurd (differ (codes "seq") (codes "replay") refl e);
}

run_fits : LevelFits Fits (leaf twarp_app run_app.top)
run_fits name words named other f = record {
  known = inr (inr (inl refl));
  seq = λ e. absurd (differ (codes "run") (codes "seq") refl e);
  run = λ _. record {
    report = record {
      stop = has_number (leaf twarp_app run_app.top) refl words f (codes "stop") 1 LATEST 0 (refl, refl);
      every = has_number_if_given (leaf twarp_app run_app.top) refl words f (codes "every") 1 LATEST 1 (refl, (refl, refl));
    };
    workers = has_number_if_given (leaf twarp_app run_app.top) refl words f (codes "workers") 1 MOST_WORKERS 3 (refl, (refl, (refl, (refl, refl))));
    batch = has_number_if_given (leaf twarp_app run_app.top) refl words f (codes "batch") 1 MOST_BATCH 4 (refl, (refl, (refl, (refl, (refl, refl)))));
  };
  trail = λ e. absurd (differ (codes "run") (codes "trail") refl e);
  replay = λ e. absurd (differ (codes "run") (codes "replay") refl e);
}

trail_fits : LevelFits Fits (leaf twarp_app trail_app.top)
trail_fits name words named other f = record {
  known = inr (inr (inr (inl refl)));
  seq = λ e. absurd (differ (codes "trail") (codes "seq") refl e);
  run = λ e. absurd (differ (codes "trail") (codes "run") refl e);
  trail = λ _. record {
    router = has_number (leaf twarp_app trail_app.top) refl words f (codes "router") 0 (MOST_ROUTERS - 1) 0 (refl, refl);
    stop = has_number (leaf twarp_app trail_app.top) refl words f (codes "stop") 1 LATEST 1 (refl, (refl, refl));
    keep = has_number (leaf twarp_app trail_app.top) refl words f (codes "keep") 0 LATEST 2 (refl, (refl, (refl, refl)));
  };
  replay = λ e. absurd (differ (codes "trail") (codes "replay") refl e);
}

replay_fits : LevelFits Fits (leaf twarp_app replay_app.top)
replay_fits name words named other f = record {
  known = inr (inr (inr (inr (inl refl))));
  seq = λ e. absurd (differ (codes "replay") (codes "seq") refl e);
  run = λ e. absurd (differ (codes "replay") (codes "run") refl e);
  trail = λ e. absurd (differ (codes "replay") (codes "trail") refl e);
  replay = λ _. record {
    stop = has_number (leaf twarp_app replay_app.top) refl words f (codes "stop") 1 LATEST 0 (refl, refl);
    workers = has_number_if_given (leaf twarp_app replay_app.top) refl words f (codes "workers") 1 MOST_WORKERS 1 (refl, (refl, refl));
  };
}

upgrade_fits : LevelFits Fits (leaf twarp_app upgrade_app.top)
upgrade_fits name words named other f = record {
  known = inr (inr (inr (inr (inr refl))));
  seq = λ e. absurd (differ (codes "upgrade") (codes "seq") refl e);
  run = λ e. absurd (differ (codes "upgrade") (codes "run") refl e);
  trail = λ e. absurd (differ (codes "upgrade") (codes "trail") refl e);
  replay = λ e. absurd (differ (codes "upgrade") (codes "replay") refl e);
}

pub all_fit : AllByRecursion (LevelFits Fits) (built twarp_app).subs
all_fit = (check_fits, (seq_fits, (run_fits, (trail_fits, (replay_fits, (upgrade_fits, (help_fits Fits, tt)))))))

pub simple : is_simple twarp_app ≡ true
simple = refl

pub free : is_simple_and_free twarp_app ≡ true
free = refl

pub long_version : (name : Text) → fault_of twarp_app (name ∷ codes "--version" ∷ []) ≡ kind.DisplayVersion ∷ []
unfolding clap_on_literals
long_version name = refl

pub short_version : (name : Text) → fault_of twarp_app (name ∷ codes "-V" ∷ []) ≡ kind.DisplayVersion ∷ []
unfolding clap_on_literals
short_version name = refl
