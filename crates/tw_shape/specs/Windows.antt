-- What the fields of a watch say, and what holds of them (own).
use Rattle.std.specs.Prelude.{ℕ, ◌≡◌, ◌<◌, ◌≤◌, ◌+◌, ◌-◌, ◌*◌}
use Rattle.std.specs.List.{All}
use Rattle.tw_model.specs.declared.limits.TheConstants.{LATEST, WINDOW}
use Rattle.tw_shape.specs.declared.watch.Gap.{Gap}
use Rattle.tw_shape.specs.declared.watch.Watch.TheInside.{Inside}
use Rattle.tw_shape.specs.Watch.{IsGap, Watch}

-- the watch that the fields say
abbrev pub watch_of : Inside → Watch
watch_of a = record { every = a.every; window = a.window.items; found = a.found }

-- a gap whose last checkpoint is not past the latest time
pub record IsTimely (every : ℕ) (gap : Gap) : Type 0 where
  pub is : IsGap every gap
  pub latest : gap.time + (gap.count - 1) * every ≤ LATEST

-- the window has its places, and gaps in them
pub record IsWatch (a : Inside) : Type 0 where
  pub some : 0 < a.every
  pub most : a.every ≤ LATEST
  pub places : a.window.capacity ≡ WINDOW
  pub gaps : All (IsTimely a.every) a.window.items
