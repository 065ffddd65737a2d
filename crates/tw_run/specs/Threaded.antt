-- What the program that starts threads leaves (own): what others leave, or nothing where a thread is refused.
use Rattle.std.specs.Prelude.{ℕ, ◌≡◌, ◌⊎◌, Bool, false, IsOk, List, Option, Result, Err}
use Rattle.tw_commands.specs.declared.cause.Cause.{Cause}
use Rattle.tw_commands.specs.declared.cause.Cause.TheVariants.{NoThread}
use Rattle.tw_commands.specs.declared.cause.Status.{Status}
use Rattle.tw_commands.specs.Output.{Answers, IsUntouched, Leaves, Output}
use Rattle.tw_device.specs.Source.{IsInput}
use Rattle.tw_text.specs.Reading.{case_of}

-- a thread was refused, and nothing was written
pub record LacksThread (result : Result Status Cause) (old new : Option (List ℕ)) (failed : Bool) : Type 0 where
  pub no_thread : result ≡ Err NoThread
  pub sink : IsUntouched old new failed

-- what it leaves at its sink that is to write this output
abbrev pub LeavesThreaded : Result Status Cause → Output → Type 0 → Option (List ℕ) → Option (List ℕ) → Bool → Type 0
LeavesThreaded result output stuck old new failed = Leaves result output stuck old new failed ⊎ LacksThread result old new failed

-- and where its input is this text: a thread is refused only where the text is a case
abbrev pub LeavesThreadedFor : List ℕ → Result Status Cause → Output → Type 0 → Option (List ℕ) → Option (List ℕ) → Bool → Type 0
LeavesThreadedFor text result output stuck old new failed = Leaves result output stuck old new failed ⊎ (IsOk (case_of text) × LacksThread result old new failed)

-- a text was read that is a case, a thread was refused for its run, and nothing was written
pub record LacksThreadFor (result : Result Status Cause) (known old new : Option (List ℕ)) (reader writer : Bool) : Type 0 where
  pub input : List ℕ
  pub read : IsInput known input
  pub is_case : IsOk (case_of input)
  pub source : reader ≡ false
  pub lacks : LacksThread result old new writer

-- what it leaves that is to write the output of its input, which was read and is a case where a thread is refused
abbrev pub AnswersThreaded : Result Status Cause → (List ℕ → Output) → (List ℕ → Type 0) → Option (List ℕ) → Option (List ℕ) → Option (List ℕ) → Bool → Bool → Type 0
AnswersThreaded result output stuck known old new reader writer =
    Answers result output stuck known old new reader writer ⊎ LacksThreadFor result known old new reader writer
