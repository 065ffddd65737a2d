-- What the parser answers to a program's name with `--version` or `-V`.
use Rattle.std.proofs.Common.{◌≡◌, ◌∙◌, inl, inr, sym, subst, codes, List, [], ◌∷◌}
use Rattle.std.specs.Prelude.{IfErr, IsErrAnd, Ok, Err, Result}
use Rattle.clap.specs.Words.{App, Kinds, Text, fault_of}
use Rattle.clap.specs.declared.error.kind.ErrorKind.TheVariants as kind
use Rattle.tw_options.specs.Fault.{AsksVersion, Explains, TellsVersion}
use Rattle.tw_options.specs.declared.fault.CommandLineFault.{CommandLineFault}
use Rattle.tw_options.specs.declared.fault.CommandLineFault.TheVariants.{Help, Bad, Memory}

tells : (fault : CommandLineFault) → Explains (kind.DisplayVersion ∷ []) fault → TellsVersion fault
tells (Help e) (h, inl is) = is
tells (Help e) (h, inr none) = absurd none
tells (Bad e) (h, g, inl is) = absurd (h (inr is))
tells (Bad e) (h, g, inr none) = absurd none
tells Memory h = tt

-- a program that has a version
module _ (own : App) (long : (name : Text) → fault_of own (name ∷ codes "--version" ∷ []) ≡ kind.DisplayVersion ∷ [])
    (short : (name : Text) → fault_of own (name ∷ codes "-V" ∷ []) ≡ kind.DisplayVersion ∷ []) where
  version_fault : (words : List Text) → AsksVersion words → fault_of own words ≡ kind.DisplayVersion ∷ []
  version_fault words (name, inl is) = rw is (long name)
  version_fault words (name, inr is) = rw is (short name)

  -- words that ask for the version are not taken
  pub not_taken : (words : List Text) → AsksVersion words → fault_of own words ≡ [] → ⊥
  not_taken words asks none =
      let bad : [] ≡ kind.DisplayVersion ∷ [] = sym none ∙ version_fault words asks in cc

  -- and their fault tells it
  pub version_told : {T : Type 0} (words : List Text) (P : CommandLineFault → Type 0) (r : Result T CommandLineFault) → AsksVersion words
      → IsErrAnd r P → IfErr r (Explains (fault_of own words)) → IsErrAnd r TellsVersion
  version_told words P (Ok x) asks err h = err
  version_told words P (Err fault) asks err h =
      tells fault (subst (λ (ks : Kinds). Explains ks fault) (version_fault words asks) h)
