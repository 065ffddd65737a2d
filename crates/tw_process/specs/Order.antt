-- Events with a body, and their order: by time, then receiver, sender, number and body (own).
use Rattle.std.specs.Ordering.{nat_cmp, ordering_then}
use Rattle.std.specs.declared.cmp.Ordering.{Ordering}
use Rattle.tw_process.specs.Parts.{Parts}
use Rattle.tw_process.specs.declared.event.Event.{Event}

-- what every event has, of one with a body
abbrev pub event_parts : {B : Type 0} → Parts (Event B)
event_parts = record { time = λ e. e.time; dst = λ e. e.dst; src = λ e. e.src; seq = λ e. e.seq }

-- the order of events, by that of their bodies
abbrev pub event_cmp : {B : Type 0} → (B → B → Ordering) → Event B → Event B → Ordering
event_cmp cmp d e =
    ordering_then (nat_cmp d.time e.time)
    (ordering_then (nat_cmp d.dst e.dst) (ordering_then (nat_cmp d.src e.src) (ordering_then (nat_cmp d.seq e.seq) (cmp d.body e.body))))
