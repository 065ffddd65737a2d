use Rattle.std.proofs.Common.{List, length, ap, sym, ◌∙◌}
use Rattle.std.proofs.lemmas.Bool.{eqb-false}
use Rattle.tw_event.specs.declared.event.Event.{Event}
use Rattle.tw_shape.proofs.Packing.{still_first, still_longest}
use Rattle.tw_shape.proofs.shape.Shape.ticks_left.Goals as goal

pub returns-else-is_empty-clause-still : goal.returns-else-is_empty-clause-still
returns-else-is_empty-clause-still c = still_first c.self.inside c.args.self.now c.self.view_is c.self.invariant

pub returns-else-is_empty-clause-longest : goal.returns-else-is_empty-clause-longest
returns-else-is_empty-clause-longest c =
    still_longest c.self.inside c.args.self.now c.self.view_is c.self.invariant
    (λ h. eqb-false (length c.as_slice-events.result.now) 0 (sym c.is_empty.ensures ∙ c.if-is_empty.false) (ap (λ (l : List Event). length l) c.as_slice-events.ensures.value ∙ h))
