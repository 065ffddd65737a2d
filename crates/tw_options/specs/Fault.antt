-- Why the words give no command line. Own, over the kinds of error that the parser has.
use Rattle.std.specs.Prelude.{◌≡◌, ◌⊎◌, List, [], ◌∷◌, codes}
use Rattle.clap.specs.Words.{IsAmong, Kinds, Text, kind_of}
use Rattle.clap.specs.declared.error.Error.{Error}
use Rattle.clap.specs.declared.error.kind.ErrorKind.{ErrorKind}
use Rattle.clap.specs.declared.error.kind.ErrorKind.TheVariants as kind
use Rattle.tw_options.specs.declared.fault.CommandLineFault.{CommandLineFault}
use Rattle.tw_options.specs.declared.fault.CommandLineFault.TheVariants.{Help, Bad, Memory}

-- an error of this kind answers a request: its text is what was asked for
abbrev pub AnswersRequest : ErrorKind → Type 0
AnswersRequest k = (k ≡ kind.DisplayHelp) ⊎ (k ≡ kind.DisplayVersion)

-- the parser's error, as a fault of the command line
abbrev pub IsToldAs : Error → CommandLineFault → Type 0
IsToldAs error (Help e) = (e ≡ error) × AnswersRequest (kind_of error)
IsToldAs error (Bad e) = (e ≡ error) × (AnswersRequest (kind_of error) → ⊥) × (kind_of error ≡ kind.OutOfMemory → ⊥)
IsToldAs error Memory = kind_of error ≡ kind.OutOfMemory

-- the fault is one of the kinds that the parser has for the words
abbrev pub Explains : Kinds → CommandLineFault → Type 0
Explains kinds (Help e) = AnswersRequest (kind_of e) × IsAmong (kind_of e) kinds
Explains kinds (Bad e) =
    (AnswersRequest (kind_of e) → ⊥) × (kind_of e ≡ kind.OutOfMemory → ⊥) × IsAmong (kind_of e) kinds
Explains kinds Memory = Unit {0}

-- the words are the program's name, and then `--version` or `-V`
abbrev pub AsksVersion : List Text → Type 0
AsksVersion words = (name : Text) × ((words ≡ name ∷ codes "--version" ∷ []) ⊎ (words ≡ name ∷ codes "-V" ∷ []))

-- the fault is the text of the version, or memory was refused
abbrev pub TellsVersion : CommandLineFault → Type 0
TellsVersion (Help e) = kind_of e ≡ kind.DisplayVersion
TellsVersion (Bad e) = ⊥
TellsVersion Memory = Unit {0}
