use Rattle.std.proofs.Common.{◌≡◌, ◌+◌, ◌≤◌, ◌++◌, drop, length, map, true}
use Rattle.std.specs.Prelude.{vec_capacity, vec_len}
use Rattle.tw_core.specs.Steps.{still_held, to_send}
use Rattle.tw_model.specs.Case.{Case, simulation}
use Rattle.tw_shard.specs.Timeline.{signed}
use Rattle.tw_shard.proofs.timeline.send_unheld.Given as goal

abbrev pub invariant-loop-event : goal.invariant-loop-event
invariant-loop-event l = record {
  room : vec_len l.outgoing + length (drop l.event-index l.events) ≤ vec_capacity l.outgoing;
  items : (case : Case) → l.outgoing.items ++ map (signed true) (to_send (simulation case) (drop l.event-index l.events) l.held.events)
      ≡ l.fn.outgoing.items ++ map (signed true) (to_send (simulation case) l.events l.fn.held.events);
  held : (case : Case) → still_held (simulation case) (drop l.event-index l.events) l.held.events ≡ still_held (simulation case) l.events l.fn.held.events;
  routers : l.held.routers ≡ l.fn.held.routers;
}
