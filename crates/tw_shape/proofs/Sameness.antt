-- The tests of sameness decide equality.
use Rattle.std.proofs.Common.{◌≡◌, ℕ, ◌==◌, Bool, true, ◌&&◌, List, ap, subst}
use lib.Pointwise.{pointwise, pointwise_decides}
use Rattle.std.specs.Bool.{Decides, beq}
use Rattle.std.specs.Cmp.{booleans_Decides, unsigned_Decides}
use Rattle.std.proofs.lemmas.Bool.{and_from, and_parts}
use Rattle.tw_event.specs.declared.event.Event.{Event}
use Rattle.tw_event.specs.declared.event.PathNo.{PathNo}
use Rattle.tw_event.specs.Order.{event_same}
use Rattle.tw_event.proofs.Order.{same_is, same_self}
use Rattle.tw_model.specs.declared.state.Row.{Row}
use Rattle.tw_shape.specs.Shape.{RouterShape, Shape}
use Rattle.tw_shape.specs.Same.{same_path, same_row, same_router, same_shape}

pub both_decide : {P Q R : Type 0} (a b : Bool) → Decides a P → Decides b Q → (P → Q → R) → (R → P × Q) → Decides (a && b) R
both_decide a b p q make parts = (
  (λ h. let k = and_parts a b h in make (p.0 k.0) (q.0 k.1)),
  (λ r. and_from a b (p.1 (parts r).0) (q.1 (parts r).1)),
)

path_of : ℕ → PathNo
path_of k = record { 0 = k }

pub path_decides : (p q : PathNo) → Decides (same_path p q) (p ≡ q)
unfolding path_of
path_decides p q = ((λ h. ap path_of ((unsigned_Decides p.0 q.0).0 h)), (λ e. (unsigned_Decides p.0 q.0).1 (ap (λ r. r.0) e)))

row_of : PathNo → Bool → ℕ → Row
row_of p b n = record { heard = p; up = b; session = n }

pub row_decides : (r s : Row) → Decides (same_row r s) (r ≡ s)
unfolding row_of
row_decides r s =
    both_decide (same_path r.heard s.heard) (beq r.up s.up && (r.session == s.session)) (path_decides r.heard s.heard)
    (both_decide {R = (r.up ≡ s.up) × (r.session ≡ s.session)} (beq r.up s.up) (r.session == s.session)
    (booleans_Decides r.up s.up) (unsigned_Decides r.session s.session) (λ p q. (p, q)) (λ p. (p.0, p.1)))
    (λ p q. let all : row_of r.heard r.up r.session ≡ row_of s.heard s.up s.session = (let a = q.0 in let b = q.1 in cc) in all)
    (λ e. (ap (λ x. x.heard) e, (ap (λ x. x.up) e, ap (λ x. x.session) e)))

-- whether a router's rows, paths and bars are the same
pub lists_decide : (rs qs : List Row) (os ps : List PathNo) (bs cs : List Bool)
    → Decides (pointwise same_row rs qs && (pointwise same_path os ps && pointwise beq bs cs)) ((rs ≡ qs) × (os ≡ ps) × (bs ≡ cs))
lists_decide rs qs os ps bs cs =
    both_decide (pointwise same_row rs qs) (pointwise same_path os ps && pointwise beq bs cs) (pointwise_decides row_decides rs qs)
    (both_decide {R = (os ≡ ps) × (bs ≡ cs)} (pointwise same_path os ps) (pointwise beq bs cs)
    (pointwise_decides path_decides os ps) (pointwise_decides booleans_Decides bs cs) (λ p q. (p, q)) (λ p. (p.0, p.1)))
    (λ p q. (p, q.0, q.1)) (λ p. (p.0, (p.1, p.2)))

pub router_decides : (r s : RouterShape) → Decides (same_router r s) (r ≡ s)
router_decides r s =
    both_decide (same_path r.rib s.rib) (pointwise same_row r.rows s.rows && (pointwise same_path r.order s.order && pointwise beq r.barred s.barred)) (path_decides r.rib s.rib)
    (lists_decide r.rows s.rows r.order s.order r.barred s.barred)
    (λ p q. λ i. record { rib = p i; rows = q.0 i; order = q.1 i; barred = q.2 i })
    (λ e. (ap (λ x. x.rib) e, (ap (λ x. x.rows) e, ap (λ x. x.order) e, ap (λ x. x.barred) e)))

pub event_decides : (d e : Event) → Decides (event_same d e) (d ≡ e)
event_decides d e = (same_is d e, (λ h. subst (λ x. event_same d x ≡ true) h (same_self d)))

pub shape_decides : (s t : Shape) → Decides (same_shape s t) (s ≡ t)
shape_decides s t =
    both_decide (pointwise same_router s.routers t.routers) (pointwise event_same s.pending t.pending)
    (pointwise_decides router_decides s.routers t.routers) (pointwise_decides event_decides s.pending t.pending)
    (λ p q. λ i. record { routers = p i; pending = q i })
    (λ e. (ap (λ x. x.routers) e, ap (λ x. x.pending) e))
