-- Tests of whether shapes are the same (own).
use Rattle.std.specs.Prelude.{ℕ, ◌≡◌, ◌==◌, Bool, false, ◌&&◌}
use lib.Pointwise.{pointwise}
use Rattle.std.specs.Bool.{beq}
use Rattle.tw_event.specs.declared.event.PathNo.{PathNo}
use Rattle.tw_event.specs.Order.{event_same}
use Rattle.tw_model.specs.declared.state.Row.{Row}
use Rattle.tw_shape.specs.Shape.{IsStill, RouterShape, Shape, later}

-- whether two path numbers are the same
abbrev pub same_path : PathNo → PathNo → Bool
same_path p q = p.0 == q.0

-- whether two rows are the same in every part
abbrev pub same_row : Row → Row → Bool
same_row r s = same_path r.heard s.heard && (beq r.up s.up && (r.session == s.session))

-- whether two routers are the same in every part
abbrev pub same_router : RouterShape → RouterShape → Bool
same_router r s = same_path r.rib s.rib && (pointwise same_row r.rows s.rows && (pointwise same_path r.order s.order && pointwise beq r.barred s.barred))

-- whether two shapes are the same in every part
abbrev pub same_shape : Shape → Shape → Bool
same_shape s t = pointwise same_router s.routers t.routers && pointwise event_same s.pending t.pending

-- the two are not the same at any two times later, as long as nothing is handled
abbrev pub NeverMeet : Shape → Shape → Type 0
NeverMeet s t = (d e : ℕ) → IsStill d s → IsStill e t → same_shape (later d s) (later e t) ≡ false
