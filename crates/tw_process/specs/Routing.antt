-- Routing's events have what every event has, and their order tells any two apart.
use Rattle.std.specs.Prelude.{◌≡◌, ◌≤◌}
use Rattle.std.proofs.Common.{ap, sym, ◌∙◌}
use Rattle.std.specs.Ordering.{is_lt}
use Rattle.std.specs.declared.cmp.Ordering.TheVariants.{Equal, Less}
use Rattle.tw_event.specs.declared.event.Event.{Event}
use Rattle.tw_event.specs.contracts.event.EventOrd.TheImpl as event_ord
use Rattle.tw_event.proofs.Order.{before_time, event_exact, event_order}
use Rattle.tw_process.specs.Parts.{Parts}

-- when it happens, the router that handles it, the one that sent it, and the sender's number for it
abbrev pub routing_parts : Parts Event
routing_parts = record { time = λ e. e.time; dst = λ e. e.dst; src = λ e. e.src; seq = λ e. e.seq }

-- events that compare alike are one
pub routing_exact : (d e : Event) → event_ord.ghosts.cmp d e ≡ Equal → d ≡ e
routing_exact d e h = event_exact d e (sym (event_order d e) ∙ h)

-- an event is no later than those that it comes before
pub routing_timely : (d e : Event) → event_ord.ghosts.cmp d e ≡ Less → d.time ≤ e.time
routing_timely d e h = before_time d e (ap is_lt (sym (event_order d e) ∙ h))
