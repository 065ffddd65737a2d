-- The parts of an event, in the order in which they are compared (own).
use Rattle.tw_event.specs.declared.event.Event.{Event}
use Rattle.tw_event.specs.declared.event.Rank.{Rank}
use Rattle.tw_event.specs.Order.{class_of}

-- the parts of an event
abbrev pub rank_of : Event → Rank
rank_of e = record { time = e.time; dst = e.dst; class = class_of e.body; src = e.src; seq = e.seq; body = e.body }
