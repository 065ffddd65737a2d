-- Routers that move between the workers of a run (own).
use Rattle.std.specs.Prelude.{ℕ, ◌≡◌, ◌+◌, ◌<◌, ◌≤◌, ◌==◌, ◌&&◌, ◌++◌, ◌⊎◌, Bool, true, false, List, Some, filter, length, nat_lt, slice_get, slice_index_or, slice_set, vec_capacity, vec_len}
use Rattle.std.specs.List.{list_all}
use Rattle.tw_core.specs.Machine.{IsSameMachine}
use Rattle.tw_exchange.specs.Board.{Board, IsListed, is_to, is_to_another, who, workers}
use Rattle.tw_model.specs.Case.{simulation}
use Rattle.tw_parallel.specs.declared.moving.UnfitOwners.{UnfitOwners}
use Rattle.tw_parallel.specs.Sim.{GoesOn, Sim, machine}
use Rattle.tw_shard.specs.Moving.{HasMovedIn, HasMovedOut}
use Rattle.tw_shard.specs.Shard.{Shard, no_shard, owns}
use Rattle.tw_table.specs.declared.hand.Hand.{Hand}
use Rattle.tw_table.specs.Moving.{HasMoved, waiting}
use Rattle.tw_table.specs.Shares.{Share}

-- whether a list has one of so many workers for each of so many routers
abbrev pub fit : ℕ → ℕ → List ℕ → Bool
fit nodes n owners = length owners == nodes && list_all (λ w. nat_lt w n) owners

-- whether a list has one of the workers for each router
abbrev pub are_owners : Sim → List ℕ → Bool
are_owners s owners = fit s.case.net.nodes (workers s.board) owners

-- the refusal of a list that has not one of the workers for each router
abbrev pub unfit_owners : UnfitOwners
unfit_owners = record {}

-- later each router is at the worker that it was at, or at the one that the list names for it
abbrev pub AreOldOrNamed : List ℕ → Sim → Sim → Type 0
AreOldOrNamed owners s t = (r : ℕ) → r < s.case.net.nodes → (who t.board r ≡ who s.board r) ⊎ (slice_get owners r ≡ Some (who t.board r))

-- a list says the worker of each router
abbrev pub AreListed : Sim → Type 0
AreListed s = (r : ℕ) → r < s.case.net.nodes → IsListed r s.board

-- two shards of one case, which retain their events alike and take back at the same time
pub record AreLike (s t : Shard) : Type 0 where
  pub case : t.terms.case ≡ s.terms.case
  pub retains : t.terms.retains ≡ s.terms.retains
  pub cancel : t.terms.cancel ≡ s.terms.cancel

-- router r may go from the shard at one place to that at another, which does not have it
pub record MayPass (r from to : ℕ) (ss : List Shard) : Type 0 where
  pub like : AreLike (slice_index_or ss from no_shard) (slice_index_or ss to no_shard)
  pub own : owns (slice_index_or ss from no_shard) r ≡ true
  pub new : owns (slice_index_or ss to no_shard) r ≡ false

-- it has gone there, and the other shards stay
pub record HasPassed (r from to : ℕ) (ss later : List Shard) : Type 0 where
  pub left : HasMovedOut r (slice_index_or ss from no_shard) (slice_index_or later from no_shard)
  pub came : HasMovedIn r (slice_index_or ss from no_shard) (slice_index_or ss to no_shard) (slice_index_or later to no_shard)
  pub rest : later ≡ slice_set (slice_set ss from (slice_index_or later from no_shard)) to (slice_index_or later to no_shard)

-- a hand has room for all mail of another
abbrev pub HasRoomFor : Hand → Hand → Type 0
HasRoomFor from to = vec_len to.mail + vec_len from.mail ≤ vec_capacity to.mail

-- the mail for router r that is not delivered has gone from the hand h, which is h2 now, to k, which is k2 now
pub record IsHanded (r : ℕ) (h k h2 k2 : Hand) : Type 0 where
  pub left : waiting h2 ≡ filter (is_to_another r) (waiting h)
  pub came : waiting k2 ≡ waiting k ++ filter (is_to r) (waiting h)
  pub next : k2.next ≡ 0
  -- what no visit has taken stays, and so does the room
  pub out : h2.out ≡ h.out
  pub to_out : k2.out ≡ k.out
  pub room : vec_capacity k.mail ≤ vec_capacity k2.mail
  pub fits : vec_len k2.mail ≤ vec_len k.mail + vec_len h.mail

-- so at two places of a list of hands, where the others stay; d is any hand
pub record HasHanded (r from to : ℕ) (hands later : List Hand) (d : Hand) : Type 0 where
  pub handed : IsHanded r (slice_index_or hands from d) (slice_index_or hands to d) (slice_index_or later from d) (slice_index_or later to d)
  pub rest : later ≡ slice_set (slice_set hands from (slice_index_or later from d)) to (slice_index_or later to d)

-- two places of so many
pub record AreEnds (from to count : ℕ) : Type 0 where
  pub from_within : from < count
  pub to_within : to < count
  pub apart : from ≡ to → ⊥

-- the run goes on with the same machine but for the order of its lists, whatever routers its workers have
pub record IsRearranged (s t : Sim) : Type 0 where
  pub same : IsSameMachine (simulation s.case) (machine s) (machine t)
  pub goes_on : GoesOn s t
  pub stop : t.board.stop ≡ s.board.stop

-- router r has gone from the share at one place to that at another
pub record HasMovedBetween (r from to : ℕ) (x : Board) (shares later : List Share) : Type 0 where
  pub share : Share
  pub other : Share
  pub share_later : Share
  pub other_later : Share
  pub there : slice_get shares from ≡ Some share
  pub other_there : slice_get shares to ≡ Some other
  pub moved : HasMoved r x share other share_later other_later
  pub later_is : later ≡ slice_set (slice_set shares from share_later) to other_later
