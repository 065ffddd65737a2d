-- The first extension of each row of a table (own).
use Rattle.std.specs.Prelude.{ℕ, ◌≡◌, ◌≢◌, ◌+◌, ◌<◌, ◌≤◌, List, length, slice_index_or}
use Rattle.tw_instance.specs.declared.extensions.Extension.{Extension}
use Rattle.tw_instance.specs.declared.extensions.TheConstants.{NOWHERE}

-- where it is at a place, the row from one place to another is not empty, and it stands first in it
abbrev pub IsFirstOf : ℕ → ℕ → List Extension → Extension → Type 0
IsFirstOf from to extensions e = e.place ≢ NOWHERE → (from < to) × (e ≡ slice_index_or extensions from e)

-- for each row its first extension
pub record AreFirsts (starts : List ℕ) (extensions firsts : List Extension) : Type 0 where
  pub long : length starts ≤ length firsts + 1
  pub each : (r : ℕ) (e : Extension) → r < length firsts → IsFirstOf (slice_index_or starts r 0) (slice_index_or starts (r + 1) 0) extensions (slice_index_or firsts r e)
