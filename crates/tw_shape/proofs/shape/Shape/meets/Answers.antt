use Rattle.std.proofs.Common.{sym, ◌∙◌}
use Rattle.std.specs.Vec.{with_items}
use Rattle.tw_shape.proofs.Packing.{alike_later, hashed_kept, meets_else, meets_then, put, view_kept}
use Rattle.tw_shape.proofs.shape.Shape.meets.Goals as goal
use Rattle.tw_shape.proofs.shape.Shape.meets.Goals.{then-eq, else-eq}

pub invariant_of-self : goal.invariant_of-self
invariant_of-self c = hashed_kept c.self.inside (with_items c.self.inside.pending.events c.put_in_order.new.events) (put c.self.inside.pending.events c.deref_mut.result.now c.put_in_order.new.events c.deref_mut.ensures.value c.put_in_order.ensures) c.self.invariant

pub invariant_of-other : goal.invariant_of-other
invariant_of-other c = hashed_kept c.other.inside (with_items c.other.inside.pending.events c.put_in_order-2.new.events) (put c.other.inside.pending.events c.deref_mut-2.result.now c.put_in_order-2.new.events c.deref_mut-2.ensures.value c.put_in_order-2.ensures) c.other.invariant

pub returns-clause-same : goal.returns-clause-same
returns-clause-same c = view_kept c.self.inside (with_items c.self.inside.pending.events c.put_in_order.new.events) (put c.self.inside.pending.events c.deref_mut.result.now c.put_in_order.new.events c.deref_mut.ensures.value c.put_in_order.ensures) ∙ c.self.view_is

pub returns-clause-other_same : goal.returns-clause-other_same
returns-clause-other_same c = view_kept c.other.inside (with_items c.other.inside.pending.events c.put_in_order-2.new.events) (put c.other.inside.pending.events c.deref_mut-2.result.now c.put_in_order-2.new.events c.deref_mut-2.ensures.value c.put_in_order-2.ensures) ∙ c.other.view_is

pub returns-clause-value : goal.returns-clause-value
returns-clause-value c =
    elim c.if-eq.branch [
      | then-eq w ↦
          w.result-is ∙ meets_then c.self.inside c.other.inside c.self.invariant c.other.invariant c.args.self.now c.args.other.now c.self.view_is c.other.view_is
          c.args.ticks c.args.other_ticks _ (sym c.eq.ensures ∙ w.if-eq.true)
          (w.are_alike.ensures ∙ alike_later c.self.inside c.other.inside _ _ (put c.self.inside.pending.events c.deref_mut.result.now c.put_in_order.new.events c.deref_mut.ensures.value c.put_in_order.ensures) (put c.other.inside.pending.events c.deref_mut-2.result.now c.put_in_order-2.new.events c.deref_mut-2.ensures.value c.put_in_order-2.ensures) c.args.ticks c.args.other_ticks)
      | else-eq w ↦
          w.result-is ∙ w.if-eq.false ∙ meets_else c.self.inside c.other.inside c.self.invariant c.other.invariant c.args.self.now c.args.other.now c.self.view_is c.other.view_is
          c.args.ticks c.args.other_ticks (sym c.eq.ensures ∙ w.if-eq.false)
    ]
