-- A machine that begins (own).
use Rattle.std.specs.Prelude.{ℕ, []}
use Rattle.tw_core.specs.declared.limits.TheConstants.{OPENING_ROOM}
use Rattle.tw_core.specs.Machine.{Core}
use Rattle.tw_event.specs.declared.event.Event.{Event}
use Rattle.tw_event.specs.Order.{event_before}
use Rattle.tw_model.specs.Case.{Case, opening_events}
use Rattle.tw_sim.specs.declared.machine.Cancel.{Cancel}
use Rattle.tw_sim.specs.Ordered.{insert_all}

-- the machine of a case that has handled nothing, and takes back what undone events have sent as this says: the opening events are
-- pending, in order
abbrev pub opening_machine : Case → Cancel → ℕ → Core Event
opening_machine case cancel stop = record {
  history = λ r. [];
  pending = insert_all event_before (opening_events case.scenes) [];
  kept = [];
  flight = [];
  held = [];
  done = λ r. 0;
  past = λ r. 0;
  room = λ r. OPENING_ROOM;
  bound = 0;
  stop = stop;
  cancel = cancel;
}
