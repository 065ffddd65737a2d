use Rattle.std.proofs.Common.{arith, ap, ◌∙◌}
use Rattle.tw_event.proofs.Order.{event_eq}
use Rattle.tw_event.specs.Order.{event_before}
use Rattle.tw_sim.specs.Ordered.{insert_all}
use Rattle.tw_ordered.specs.InOrder.{least_with}
use Rattle.tw_ordered.proofs.Spares.{least_whole}
use Rattle.tw_queue.proofs.Wholes.{none_left, unmoved}
use Rattle.tw_queue.proofs.by_router.first_without.Goals as goal

pub returns-in_err-least : goal.returns-in_err-least
returns-in_err-least c = λ events before left.
    c.from_residual.ensures ∙ none_left c.args.event.now c.args.first events (insert_all event_before c.args.spare.now c.args.table.now.events) c.in_err-least.was before left

pub returns-then-eq : goal.returns-then-eq
returns-then-eq c = λ events before left.
    c.least_of.ensures ∙ ap (λ o. least_with o c.args.spare.now) c.least.ensures ∙ least_whole c.args.spare.now c.args.table.now.events

pub returns-else-eq : goal.returns-else-eq
returns-else-eq c = λ events before left. grind (arith, unmoved, event_eq)
