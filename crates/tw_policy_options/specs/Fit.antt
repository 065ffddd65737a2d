-- What the parser lets through. Own.
use Rattle.std.specs.Prelude.{◌≡◌, ◌⊎◌, List, Option, codes}
use Rattle.clap.specs.Words.{Row, Text}
use Rattle.tw_options.specs.Fit.{HasNumberIfGiven, IsFound}
use Rattle.tw_policy_options.specs.declared.splits.TheConstants.{MOST_SPLITS}

-- the number that `stable` takes
abbrev pub HasStable : List Row → Type 0
HasStable = HasNumberIfGiven (codes "splits") 0 MOST_SPLITS

-- a subcommand of ours was matched
pub record Fits (name : Text) (rows : List Row) : Type 0 where
  pub known : (name ≡ codes "safe") ⊎ (name ≡ codes "stable")
  pub stable : name ≡ codes "stable" → HasStable rows

-- a subcommand was matched, and fits
abbrev pub IsFit : Option (Text × List Row) → Type 0
IsFit = IsFound Fits
