-- What the fields of a shape say, and what holds of them (own).
use Rattle.std.specs.Prelude.{◌≡◌, List, map}
use Rattle.tw_shape.specs.declared.shape.Parts.{Parts}
use Rattle.tw_shape.specs.declared.shape.Shape.TheInside.{Inside}
use Rattle.tw_shape.specs.Packed.{Covers, hash_by, in_order, least_time, routers_of, seen}
use Rattle.tw_shape.specs.Shape.{RouterShape, Shape, sooner}

-- the routers of these parts
abbrev pub routers_in : Parts → List RouterShape
routers_in p = routers_of p.spans.items p.rows.items p.order.items p.barred.items

-- the shape that the fields say
abbrev pub shape_of : Inside → Shape
shape_of a = record { routers = routers_in a.parts; pending = seen a.pending.time a.pending.sent.items (in_order a.pending.events.items) }

-- every row, path and bar is some router's, the first pending event is due then, and the hash is that of the spans and of the pending
-- events, seen from when the first is due
pub record IsHashed (a : Inside) : Type 0 where
  pub covers : Covers a.parts.spans.items a.parts.rows.items a.parts.order.items a.parts.barred.items
  pub due : a.due ≡ least_time (shape_of a).pending
  pub hash : a.hash ≡ hash_by a.parts.spans.items (map (sooner a.due) (shape_of a).pending)
