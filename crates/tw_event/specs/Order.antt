-- The order of events: by time, then receiver, class, sender, number, body (own).
use Rattle.std.specs.Prelude.{ℕ, Bool}
use Rattle.std.specs.Ordering.{nat_cmp, ordering_then, is_lt, is_eq}
use Rattle.std.specs.declared.cmp.Ordering.{Ordering}
use Rattle.std.specs.declared.cmp.Ordering.TheVariants.{Equal}
use Rattle.tw_event.specs.declared.event.Body.{Body}
use Rattle.tw_event.specs.declared.event.Body.TheVariants as body
use Rattle.tw_event.specs.declared.event.Class.{Class}
use Rattle.tw_event.specs.declared.event.Class.TheVariants as class
use Rattle.tw_event.specs.declared.event.Event.{Event}

-- the kind of a body
abbrev pub class_of : Body → Class
class_of body.Start = class.Start
class_of (body.Fail w) = class.Fail
class_of (body.Restore w) = class.Restore
class_of (body.Swap i j) = class.Swap
class_of (body.Forbid k) = class.Forbid
class_of (body.Allow k) = class.Allow
class_of (body.Update p n) = class.Update

-- the classes in their order: Start, Fail, Restore, Swap, Forbid, Allow, Update
abbrev pub place_of : Class → ℕ
place_of class.Start = 0
place_of class.Fail = 1
place_of class.Restore = 2
place_of class.Swap = 3
place_of class.Forbid = 4
place_of class.Allow = 5
place_of class.Update = 6

-- two bodies of one class: by peer, by place or places, by path number and session
abbrev pub body_cmp : Body → Body → Ordering
body_cmp (body.Fail w) (body.Fail x) = nat_cmp w x
body_cmp (body.Restore w) (body.Restore x) = nat_cmp w x
body_cmp (body.Swap i j) (body.Swap k l) = ordering_then (nat_cmp i k) (nat_cmp j l)
body_cmp (body.Forbid k) (body.Forbid l) = nat_cmp k l
body_cmp (body.Allow k) (body.Allow l) = nat_cmp k l
body_cmp (body.Update p n) (body.Update q m) = ordering_then (nat_cmp p.0 q.0) (nat_cmp n m)
body_cmp a b = Equal

-- the order of whole events
abbrev pub event_cmp : Event → Event → Ordering
event_cmp d e =
    ordering_then (nat_cmp d.time e.time)
    (ordering_then (nat_cmp d.dst e.dst)
    (ordering_then (nat_cmp (place_of (class_of d.body)) (place_of (class_of e.body)))
    (ordering_then (nat_cmp d.src e.src) (ordering_then (nat_cmp d.seq e.seq) (body_cmp d.body e.body)))))

-- whether d is handled before e
abbrev pub event_before : Event → Event → Bool
event_before d e = is_lt (event_cmp d e)

-- whether d and e are the same event
abbrev pub event_same : Event → Event → Bool
event_same d e = is_eq (event_cmp d e)
