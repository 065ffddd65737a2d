use Rattle.std.proofs.Common.{◌≡◌, ◌+◌, ◌*◌, ◌%◌, ℕ}
use Rattle.tw_calendar.proofs.Words.{IsClear}
use Rattle.tw_calendar.proofs.marks.first_mark.Given as goal

abbrev pub invariant-loop-step : goal.invariant-loop-step
invariant-loop-step l = (base : ℕ) → (base + 1) % 1024 ≡ l.from → IsClear l.words l.from base (l.step * 64)
