-- What tests ask of a worker at a table (own).
use Rattle.std.specs.Prelude.{◌≡◌, List, [], length}
use Rattle.tw_model.specs.Case.{Case}
use Rattle.tw_table.specs.Openings.{AreNew}
use Rattle.tw_table.specs.declared.seat.Seat.{Seat}
use Rattle.tw_table.specs.declared.table.Table.{Table}
use Rattle.tw_table.specs.Seats.{IsSeatOf, share_at, stop_at}
use Rattle.tw_shard.specs.Shard.{Shard}
use Rattle.tw_table.specs.declared.hand.Hand.{Hand}
use Rattle.tw_table.specs.Shares.{Share, shares_of}
use Rattle.tw_workers.specs.Work.{IsAtWork, PreservesShare}

-- the worker with this seat may take the exchange, to stop 20: it has kept its share, and nothing is in its hand
pub record IsReadyToTake (t : Table) (s : Seat) (q : Share) : Type 0 where
  pub seat : IsSeatOf t s
  pub stop : stop_at s ≡ 20
  pub kept : PreservesShare 20 (share_at s) q
  pub work : IsAtWork 20 q
  pub mail : q.mail ≡ []
  pub unsent : q.unsent ≡ []

-- what two workers of a case have as they begin: a shard and an empty hand each
pub record AreBeginning (case : Case) (shards : List Shard) (hands : List Hand) : Type 0 where
  pub two_shards : length shards ≡ 2
  pub two_hands : length hands ≡ 2
  pub new : AreNew case 0 2 (shares_of shards hands)
