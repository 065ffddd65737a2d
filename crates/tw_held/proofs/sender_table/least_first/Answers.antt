use Rattle.std.proofs.Common.{[], refl, sym, ap, ◌∙◌, slice_get}
use Rattle.std.specs.Option.{option_copied}
use Rattle.tw_ordered.proofs.Lists.{in_order_none}
use Rattle.tw_ordered.proofs.Firsts.{least_upto}
use Rattle.tw_ordered.proofs.Events.{in_order_rising}
use Rattle.tw_held.proofs.sender_table.least_first.Goals as goal

pub loop-queue-init : goal.loop-queue-init
loop-queue-init c = ap (λ xs. slice_get xs 0) (sym (in_order_none [] (λ i l. refl)))

pub loop-queue-preserved : goal.loop-queue-preserved
loop-queue-preserved c =
    let queue = c.queue-item.result in
    let first = c.first.ensures in
    c.soonest-least.ensures
    ∙ least_upto c.loop-queue.queue-index queue c.args.queues.now c.loop-queue-test.true c.queue-item.is (option_copied c.loop-queue.least) (option_copied c.first.result) c.loop-queue.invariant
    (first.first ∙ ap (λ xs. slice_get xs 0) (sym (in_order_rising queue first.rising)))
