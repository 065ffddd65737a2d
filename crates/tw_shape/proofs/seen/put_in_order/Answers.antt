use Rattle.tw_shape.proofs.Multiset.{sorted_events}
use Rattle.tw_shape.proofs.seen.put_in_order.Goals as goal

pub returns : goal.returns
returns c = sorted_events c.args.events.now c.sort_unstable.new.self c.sort_unstable.ensures.permutation c.sort_unstable.ensures.sorted
