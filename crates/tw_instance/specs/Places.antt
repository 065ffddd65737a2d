-- The place of each path at its router (own).
use Rattle.std.specs.Prelude.{ℕ, ◌≡◌, List, length, slice_get, slice_index_or, true, Some}
use Rattle.tw_event.specs.declared.event.PathNo.{PathNo}
use Rattle.tw_model.specs.Net.{Net, is_own, paths, paths_of}

-- by their numbers, the place from 0 of each path among the permitted paths of its router, and 0 of the empty path
pub record ArePlaces (net : Net) (places : List ℕ) : Type 0 where
  pub long : length places ≡ length (paths net)
  pub empty : slice_index_or places 0 0 ≡ 0
  pub each : (v : ℕ) (q : PathNo) → is_own net v q ≡ true → slice_get (paths_of net v) (slice_index_or places q.0 0) ≡ Some q
