-- What a program is to write, and what it leaves where it stops (own).
use Rattle.std.specs.Prelude.{ℕ, ◌≡◌, ◌⊎◌, Bool, false, true, List, Option, Result, Ok, Err}
use Rattle.std.specs.Io.KnownBytes.{Appends, Keeps}
use Rattle.tw_commands.specs.declared.cause.Cause.{Cause}
use Rattle.tw_commands.specs.declared.cause.Cause.TheVariants.{Memory, CounterFull, NoThread, Device}
use Rattle.tw_commands.specs.declared.cause.Status.{Status}
use Rattle.tw_device.specs.Sink.{Begins}
use Rattle.tw_device.specs.Source.{IsInput}

-- how a program ends, and what it has written then
pub record Output : Type 0 where
  pub status : Status
  pub text : List ℕ

-- the text was written, and nothing else; the sink is open
pub record IsDone (status : Status) (output : Output) (old new : Option (List ℕ)) (failed : Bool) : Type 0 where
  pub as_told : status ≡ output.status
  pub whole : Appends old new output.text
  pub still : failed ≡ false

-- nothing was written, and the sink is open
pub record IsUntouched (old new : Option (List ℕ)) (failed : Bool) : Type 0 where
  pub nothing : Keeps old new
  pub still : failed ≡ false

-- the sink failed, and a prefix of the text was written
pub record IsCutOff (text : List ℕ) (old new : Option (List ℕ)) (failed : Bool) : Type 0 where
  pub prefix : Begins old new text
  pub closed : failed ≡ true

-- what a program that starts no thread and is to write this output leaves at its sink; stuck says whether a counter would pass its limit
abbrev pub Leaves : Result Status Cause → Output → Type 0 → Option (List ℕ) → Option (List ℕ) → Bool → Type 0
Leaves (Ok status) output stuck old new failed = IsDone status output old new failed
Leaves (Err Memory) output stuck old new failed = IsUntouched old new failed
Leaves (Err CounterFull) output stuck old new failed = stuck × IsUntouched old new failed
Leaves (Err NoThread) output stuck old new failed = ⊥
Leaves (Err Device) output stuck old new failed = IsCutOff output.text old new failed

-- the source failed, and nothing was written
pub record IsUnread (result : Result Status Cause) (old new : Option (List ℕ)) (reader writer : Bool) : Type 0 where
  pub device : result ≡ Err Device
  pub source : reader ≡ true
  pub sink : IsUntouched old new writer

-- what a program leaves that is to write the output of its input: known is what its source had, reader and writer say whether
-- the source and the sink have failed
abbrev pub Answers : Result Status Cause → (List ℕ → Output) → (List ℕ → Type 0) → Option (List ℕ) → Option (List ℕ) → Option (List ℕ) → Bool → Bool → Type 0
Answers result output stuck known old new reader writer =
    (input : List ℕ) × IsInput known input
    × (IsUnread result old new reader writer ⊎ ((reader ≡ false) × Leaves result (output input) (stuck input) old new writer))
