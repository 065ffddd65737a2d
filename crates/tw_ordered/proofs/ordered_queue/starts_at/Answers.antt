use Rattle.std.proofs.Common.{◌≡◌, false, inl, inr, subst, ◌∙◌}
use Rattle.std.proofs.lemmas.Bool.{cases_Bool}
use Rattle.std.proofs.lemmas.List.{get_or_read}
use Rattle.tw_event.specs.Order.{event_before}
use Rattle.tw_ordered.proofs.Rows.{place_first}
use Rattle.tw_ordered.proofs.ordered_queue.starts_at.Goals as goal

pub returns-in-Some : goal.returns-in-Some
returns-in-Some c =
    let xs = c.args.events.now.items in
    let e = c.args.event.now in
    let first = c.in-Some.first.now in
    elim (cases_Bool (event_before first e)) [
      | inl b ↦ rw (c.comes_before.ensures ∙ b) tt
      | inr b ↦
          rw (c.comes_before.ensures ∙ b)
          (place_first e xs c.requires (λ l. subst (λ y. event_before y e ≡ false) (get_or_read xs 0 first l c.in-Some.ensures.lookup e) b))
    ]
