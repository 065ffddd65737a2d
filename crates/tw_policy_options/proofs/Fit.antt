-- At words that the parser takes, the matches have what each subcommand of `twarp-policy` requires.
use Rattle.std.proofs.Common.{◌≡◌, inl, inr, refl, true, codes, [], ◌∷◌}
use Rattle.std.specs.List.{AllByRecursion}
use Rattle.clap.proofs.OnLiterals.{clap_on_literals}
use Rattle.clap.specs.Simple.{built, is_simple}
use Rattle.clap.specs.Words.{Text, fault_of, is_simple_and_free}
use Rattle.clap.specs.declared.error.kind.ErrorKind.TheVariants as kind
use Rattle.tw_options.proofs.Levels.{LevelFits, differ, has_number_if_given, help_fits, leaf}
use Rattle.tw_policy_options.specs.App.{policy_app, safe_app, stable_app}
use Rattle.tw_policy_options.specs.Fit.{Fits}
use Rattle.tw_policy_options.specs.declared.splits.TheConstants.{MOST_SPLITS}

safe_fits : LevelFits Fits (leaf policy_app safe_app.top)
safe_fits name words named other f = record { known = inl refl; stable = λ e. absurd (differ (codes "safe") (codes "stable") refl e) }

stable_fits : LevelFits Fits (leaf policy_app stable_app.top)
stable_fits name words named other f = record {
  known = inr refl;
  stable = λ _. has_number_if_given (leaf policy_app stable_app.top) refl words f (codes "splits") 0 MOST_SPLITS 0 (refl, refl);
}

pub all_fit : AllByRecursion (LevelFits Fits) (built policy_app).subs
all_fit = (safe_fits, (stable_fits, (help_fits Fits, tt)))

pub simple : is_simple policy_app ≡ true
simple = refl

pub free : is_simple_and_free policy_app ≡ true
free = refl

pub long_version : (name : Text) → fault_of policy_app (name ∷ codes "--version" ∷ []) ≡ kind.DisplayVersion ∷ []
unfolding clap_on_literals
long_version name = refl

pub short_version : (name : Text) → fault_of policy_app (name ∷ codes "-V" ∷ []) ≡ kind.DisplayVersion ∷ []
unfolding clap_on_literals
short_version name = refl
