-- The routers that a shard has (own).
use Rattle.std.specs.Prelude.{ℕ, ◌≡◌, ◌<◌, ◌≤◌, ◌+◌, ◌-◌, ◌⊎◌, ◌==◌, Bool, List, Some, length, min, nat_lt, slice_get, slice_index_or, vec_capacity, vec_len}
use Rattle.std.specs.List.{position_or_len}
use Rattle.tw_shard.specs.declared.roster.TheConstants.{NOT_HERE}
use Rattle.tw_shard.specs.declared.roster.Roster.TheInside.{Inside}

-- some of the routers of a case
pub record Roster : Type 0 where
  -- how many routers the case has
  pub count : ℕ
  -- those that are here, in the order of their timelines
  pub routers : List ℕ
  -- how many more there is memory for
  pub room : ℕ

-- where router r stands among these
abbrev pub place_in : List ℕ → ℕ → ℕ
place_in routers r = position_or_len (λ q. q == r) routers

-- whether router r is one of these
unfoldable pub has : List ℕ → ℕ → Bool
has routers r = nat_lt (place_in routers r) (length routers)

-- router r stands at place k of a list
pub record StandsInList (routers : List ℕ) (k r : ℕ) : Type 0 where
  pub within : k < length routers
  pub is : slice_index_or routers k 0 ≡ r

-- no router stands at two places
abbrev pub StandOnce : List ℕ → Type 0
StandOnce routers = (j k r : ℕ) → StandsInList routers j r → StandsInList routers k r → j ≡ k

-- each is a router of the case, and stands there once
pub record IsRoster (x : Roster) : Type 0 where
  pub known : (k r : ℕ) → StandsInList x.routers k r → r < x.count
  pub apart : StandOnce x.routers

-- the free places of the list, as far as its places have numbers
abbrev pub room_of : Inside → ℕ
room_of a = min (vec_capacity a.routers - vec_len a.routers) (NOT_HERE - vec_len a.routers)

abbrev pub roster_of : Inside → Roster
roster_of a = record { count = length a.places.items; routers = a.routers.items; room = room_of a }

-- the table has the place of each router that is here, and for the others the number that is no place
pub record IsTableOf (routers places : List ℕ) : Type 0 where
  pub here : (k r : ℕ) → StandsInList routers k r → slice_get places r ≡ Some k
  pub placed : (k r : ℕ) → slice_get places r ≡ Some k → (k ≡ NOT_HERE) ⊎ StandsInList routers k r
  pub few : length routers ≤ NOT_HERE

abbrev pub IsIndexed : Inside → Type 0
IsIndexed a = IsTableOf a.routers.items a.places.items

-- a list without the router at place p, to which the last one has come
pub record IsWithout (A : Type 0) (d : A) (p : ℕ) (xs ys : List A) : Type 0 where
  pub long : length ys + 1 ≡ length xs
  pub moved : p + 1 < length xs → slice_index_or ys p d ≡ slice_index_or xs (length xs - 1) d
  pub rest : (k : ℕ) → (k ≡ p → ⊥) → k + 1 < length xs → slice_index_or ys k d ≡ slice_index_or xs k d
