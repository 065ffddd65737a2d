-- A turn of a wheel: 1,024 buckets, each for one of the 1,024 keys after a base, and which of them have something (own).
use Rattle.std.specs.Prelude.{◌≡◌, ◌<◌, ◌≤◌, ◌+◌, ◌/◌, ◌%◌, ℕ, List, [], length}
use Rattle.std.specs.Int.{bit_at}
use Rattle.std.specs.List.{slice_index_or}
use Rattle.tw_event.specs.declared.event.Event.{Event}
use Rattle.tw_event.specs.Order.{event_same}
use Rattle.tw_sim.specs.Ordered.{times}
use Rattle.tw_ordered.specs.Buckets.{IsPlaced, together}

-- the mark of a place, where each word has those of 64 places
abbrev pub mark_at : List ℕ → ℕ → ℕ
mark_at words i = bit_at (slice_index_or words (i / 64) 0) (i % 64)

-- the place comes so many steps after that of the base, it is marked, and none is that comes sooner
pub record IsFirstMark (words : List ℕ) (base place : ℕ) : Type 0 where
  pub steps : ℕ
  pub at : place ≡ (base + 1 + steps) % 1024
  pub marked : steps < 1024 → mark_at words place ≡ 1
  pub clear : (k : ℕ) → k < steps → k < 1024 → mark_at words ((base + 1 + k) % 1024) ≡ 0

-- each event has one of the 1,024 keys after the base, it stands in the bucket of its key, and the buckets that have one are marked
pub record IsTurn (key : Event → ℕ) (base : ℕ) (words : List ℕ) (buckets : List (List Event)) : Type 0 where
  pub number : length buckets ≡ 1024
  pub placed : IsPlaced (λ e. key e % 1024) buckets
  pub after : (e : Event) → 0 < times event_same e (together buckets) → base < key e
  pub near : (e : Event) → 0 < times event_same e (together buckets) → key e ≤ base + 1024
  pub marked : (i : ℕ) → i < 1024 → 0 < length (slice_index_or buckets i []) → mark_at words i ≡ 1
  pub clear : (i : ℕ) → i < 1024 → slice_index_or buckets i [] ≡ [] → mark_at words i ≡ 0
