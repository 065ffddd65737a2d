-- A watch over the checkpoints of a run (own).
use Rattle.std.specs.Prelude.{ℕ, ◌<◌, ◌+◌, ◌-◌, ◌*◌, List, [], ◌∷◌, ◌++◌, map, Option, None}
use Rattle.std.specs.List.{flat_map, range_with_len}
use Rattle.std.specs.Option.{option_or}
use Rattle.circular_buffer.specs.Buffer.{keep_last}
use Rattle.tw_model.specs.Case.{Case}
use Rattle.tw_shape.specs.declared.verdict.Finding.{Finding}
use Rattle.tw_model.specs.declared.limits.TheConstants.{WINDOW}
use Rattle.tw_shape.specs.declared.watch.Gap.{Gap}
use Rattle.tw_shape.specs.Shape.{IsStill, later, shape}
use Rattle.tw_shape.specs.Verdict.{Checkpoint, first_found}

-- a checkpoint so many ticks after the first of a gap
abbrev pub after_first : Gap → ℕ → Checkpoint
after_first gap d = record { time = gap.time + d; shape = later d gap.shape }

-- the checkpoints of a gap, one every so many ticks
abbrev pub gap_checkpoints : ℕ → Gap → List Checkpoint
gap_checkpoints every gap = map (λ k. after_first gap (k * every)) (range_with_len 0 gap.count)

-- there is a checkpoint, and nothing that is pending at the first one is handled before the last
pub record IsGap (every : ℕ) (gap : Gap) : Type 0 where
  pub some : 0 < gap.count
  pub still : IsStill ((gap.count - 1) * every) gap.shape

-- a checkpoint every so many ticks; the last gaps, the oldest first; and what was found first
pub record Watch : Type 0 where
  pub every : ℕ
  pub window : List Gap
  pub found : Option Finding

-- a watch that has seen nothing
abbrev pub fresh : ℕ → Watch
fresh every = record { every = every; window = []; found = None }

-- the checkpoints of the gaps that the watch keeps
abbrev pub checkpoints_in : Watch → List Checkpoint
checkpoints_in w = flat_map (gap_checkpoints w.every) w.window

-- the watch when it has seen the checkpoints of one more gap
abbrev pub with_gap : Watch → Gap → Watch
with_gap w gap = record w {
  window = keep_last WINDOW (w.window ++ gap ∷ []);
  found = option_or w.found (first_found w.every (checkpoints_in w) (gap_checkpoints w.every gap));
}

-- so many checkpoints of a case, from number k on
abbrev pub case_gap : Case → ℕ → ℕ → ℕ → Gap
case_gap case every k n = record { time = k * every; count = n; shape = shape case (k * every) }

-- the watch has seen checkpoints 1 to n of the case, gap by gap
pub data HasSeen (case : Case) (every : ℕ) : ℕ → Watch → Type 0 where
  nothing : HasSeen case every 0 (fresh every)
  gap : {n count : ℕ} {w : Watch} → HasSeen case every n w → IsGap every (case_gap case every (n + 1) count)
      → HasSeen case every (n + count) (with_gap w (case_gap case every (n + 1) count))
