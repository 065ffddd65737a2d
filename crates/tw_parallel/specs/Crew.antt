-- Room for workers, and for what they leave (own).
use Rattle.std.specs.Prelude.{ℕ, ◌≡◌, ◌≤◌, [], vec_capacity}
use Rattle.tw_parallel.specs.declared.crew.Room.{Room}

-- the lists are empty, with room for so many
pub record IsRoomForCrew (count : ℕ) (room : Room) : Type 0 where
  pub workers : (room.workers.items ≡ []) × (count ≤ vec_capacity room.workers)
  pub shards : (room.shards.items ≡ []) × (count ≤ vec_capacity room.shards)
  pub hands : (room.hands.items ≡ []) × (count ≤ vec_capacity room.hands)
