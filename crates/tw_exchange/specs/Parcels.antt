-- What the fields of dealt messages say, and what holds of them (own).
use Rattle.std.specs.Prelude.{◌≡◌, List, map}
use Rattle.tw_exchange.specs.Rows.{items, soonest_of}
use Rattle.tw_exchange.specs.declared.parcels.AnyParcels.TheInside.{Inside}
use Rattle.tw_process.specs.Parts.{Parts}
use Rattle.tw_sim.specs.declared.machine.Signed.{Signed}

-- the lists that the fields stand for
abbrev pub lists_of : {E : Type 0} → Inside E → List (List (Signed E))
lists_of a = items a.lists.items

-- of each list the least time is at hand
pub record IsParcels {E : Type 0} (parts : Parts E) (a : Inside E) : Type 0 where
  pub soonest : a.soonest.items ≡ map (soonest_of parts) (items a.lists.items)
