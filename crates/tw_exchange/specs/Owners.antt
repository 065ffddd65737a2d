-- What says the worker of a router (own).
use Rattle.std.specs.Prelude.{ℕ, List, Option, None, Some}
use Rattle.tw_exchange.specs.declared.owners.Owners.{Owners}
use Rattle.tw_exchange.specs.declared.owners.Owners.TheVariants.{InTurn, Listed}

-- the worker of each router, where a list says it
abbrev pub list_of : Owners → Option (List ℕ)
list_of InTurn = None
list_of (Listed list) = Some list.items
