-- One event at one router (own).
use Rattle.std.specs.Prelude.{List, slice_index_or}
use Rattle.tw_event.specs.declared.event.Event.{Event}
use Rattle.tw_model.specs.State.{Router, no_router}

-- the router that handles the event
abbrev pub receiver : List Router → Event → Router
receiver routers e = slice_index_or routers e.dst no_router
