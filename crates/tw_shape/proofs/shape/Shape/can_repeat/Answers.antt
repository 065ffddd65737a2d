use Rattle.std.proofs.Common.{◌≡◌, ◌==◌, ◌&&◌, false, List, length, not, ap, sym, ◌∙◌}
use Rattle.std.specs.List.{list_all}
use Rattle.tw_event.specs.declared.event.Event.{Event}
use Rattle.tw_shape.specs.Shape.{is_update}
use Rattle.tw_shape.proofs.Packing.{can_repeat_stored}
use Rattle.tw_shape.proofs.shape.Shape.can_repeat.Goals as goal

pub returns-then-not-is_empty : goal.returns-then-not-is_empty
returns-then-not-is_empty c =
    let some : (length c.as_slice-events.result.now == 0) ≡ false = sym c.is_empty.ensures ∙ c.if-not-is_empty.true in
    c.all_updates.ensures
    ∙ ap (λ b. not b && list_all (λ e. is_update e.body) c.as_slice-events.result.now) (sym some)
    ∙ ap (λ (l : List Event). not (length l == 0) && list_all (λ e. is_update e.body) l) c.as_slice-events.ensures.value
    ∙ can_repeat_stored c.self.inside c.args.self.now c.self.view_is
