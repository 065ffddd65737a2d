-- What the fields of an exchange say, and what holds of them (own).
use Rattle.std.specs.Prelude.{◌≡◌, length, map}
use Rattle.tw_exchange.specs.AnyBoard.{AnyBoard, IsBoard}
use Rattle.tw_exchange.specs.declared.exchange.AnyExchange.TheInside.{Inside}
use Rattle.tw_exchange.specs.Owners.{list_of}
use Rattle.tw_exchange.specs.Rows.{items, soonest_of}
use Rattle.tw_process.specs.Parts.{Parts}

-- the board that the fields stand for
abbrev pub board_of : {E : Type 0} → Inside E → AnyBoard E
board_of a = record { owners = list_of a.owners; mail = items a.mail.items; reports = a.reports.items; bound = a.bound; stop = a.stop; halted = a.halted }

-- it is a board, and each row has a place for each worker
pub record IsExchange {E : Type 0} (parts : Parts E) (a : Inside E) : Type 0 where
  pub board : IsBoard parts (board_of a)
  -- of each mail the least time is at hand
  pub soonest : a.soonest.items ≡ map (soonest_of parts) (items a.mail.items)
  pub reports : length a.reports.items ≡ a.workers
