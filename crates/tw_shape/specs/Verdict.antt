-- What is found at the checkpoints of a run, and the verdict on it (own).
use Rattle.std.specs.Prelude.{ℕ, ◌≡◌, ◌≤◌, ◌<◌, ◌+◌, ◌-◌, ◌*◌, Bool, true, ◌&&◌, List, [], ◌∷◌, ◌++◌, map, nat_le, Option, None, Some, if◌then◌else◌}
use Rattle.std.specs.List.{find, range_with_len}
use Rattle.std.specs.Option.{option_map, option_or}
use Rattle.tw_event.specs.declared.event.Event.{Event}
use Rattle.tw_model.specs.Case.{Case}
use Rattle.tw_model.specs.Summary.{Summary}
use Rattle.tw_shape.specs.declared.verdict.Finding.{Finding}
use Rattle.tw_shape.specs.declared.verdict.Verdict.{Verdict}
use Rattle.tw_shape.specs.declared.verdict.Verdict.TheVariants.{Quiet, Oscillates, Undecided}
use Rattle.tw_model.specs.declared.limits.TheConstants.{WINDOW}
use Rattle.tw_shape.specs.Shape.{Shape, can_repeat, shape}
use Rattle.tw_shape.specs.Same.{same_shape}

-- a time of a run, and the shape then
pub record Checkpoint : Type 0 where
  pub time : ℕ
  pub shape : Shape

-- checkpoint number k of a case
abbrev pub checkpoint : Case → ℕ → ℕ → Checkpoint
checkpoint case every k = record { time = k * every; shape = shape case (k * every) }

-- checkpoints 1 to n of a case
abbrev pub checkpoints : Case → ℕ → ℕ → List Checkpoint
checkpoints case every n = map (checkpoint case every) (range_with_len 1 n)

-- whether checkpoint b comes at most 64 checkpoints after a and has the same shape
abbrev pub is_again : ℕ → Checkpoint → Checkpoint → Bool
is_again every b a = nat_le b.time (a.time + WINDOW * every) && same_shape a.shape b.shape

-- the run repeats from a on, as b shows
abbrev pub since : Checkpoint → Checkpoint → Finding
since b a = record { from = a.time; period = b.time - a.time }

-- what checkpoint b shows by those before it
abbrev pub found_at : ℕ → List Checkpoint → Checkpoint → Option Finding
found_at every before b = if can_repeat b.shape then option_map (since b) (find (is_again every b) before) else None

-- what is found first at checkpoints that come one after the other, after those before them
abbrev pub first_found : ℕ → List Checkpoint → List Checkpoint → Option Finding
first_found every before [] = None
first_found every before (b ∷ later) = option_or (found_at every before b) (first_found every (before ++ b ∷ []) later)

-- what is found first at checkpoints 1 to n of a case
abbrev pub finding : Case → ℕ → ℕ → Option Finding
finding case every n = first_found every [] (checkpoints case every n)

-- checkpoint j has the shape of checkpoint i, one of up to 64 before it, with events pending and none of them an opening event
pub record ComesAgain (case : Case) (every i j : ℕ) : Type 0 where
  pub some : 1 ≤ i
  pub later : i < j
  pub near : j ≤ i + WINDOW
  pub can : can_repeat (shape case (j * every)) ≡ true
  pub same : shape case (i * every) ≡ shape case (j * every)

-- of checkpoints 1 to n the first whose shape came before, and when it did
pub record IsFirst (case : Case) (every n : ℕ) (f : Finding) : Type 0 where
  pub old : ℕ
  pub new : ℕ
  pub again : ComesAgain case every old new
  pub within : new ≤ n
  pub none : (i j : ℕ) → j < new → ComesAgain case every i j → ⊥
  pub from : f.from ≡ old * every
  pub period : f.period ≡ (new - old) * every

-- quiet since time c where nothing is pending, however late; else what was found; else open
abbrev pub verdict_over : ℕ → List Event → Option Finding → Verdict
verdict_over c [] found = Quiet c
verdict_over c (e ∷ es) None = Undecided
verdict_over c (e ∷ es) (Some f) = Oscillates f.from f.period

-- the verdict on what a run left
abbrev pub verdict_of : Summary → Option Finding → Verdict
verdict_of o found = verdict_over o.last_change o.pending found
