-- What the fields of the messages on their way say (own).
use Rattle.std.specs.Prelude.{List, ◌++◌}
use Rattle.tw_event.specs.declared.event.Event.{Event}
use Rattle.tw_sim.specs.declared.machine.Signed.{Signed}
use Rattle.tw_warp.specs.declared.flight.Flight.TheInside.{Inside}
use Rattle.tw_warp.specs.Flight.{all_of}

-- those in chunks, the oldest first, and behind them the recent ones
abbrev pub flight_of : Inside → List (Signed Event)
flight_of a = all_of a.earlier.items ++ a.recent.items
