use Rattle.std.proofs.Common.{[], ◌∙◌, ap, refl}
use Rattle.tw_event.specs.Order.{event_before}
use Rattle.tw_ordered.specs.Buckets.{together}
use Rattle.tw_ordered.specs.InOrder.{in_order}
use Rattle.tw_ordered.proofs.Lists.{in_order_none}
use Rattle.tw_held.proofs.sender_table.SenderTable.new.Goals as goal

pub returns : goal.returns
returns c = ap (λ lists. in_order event_before (together lists)) c.new.ensures.items ∙ in_order_none [] (λ i l. refl)
