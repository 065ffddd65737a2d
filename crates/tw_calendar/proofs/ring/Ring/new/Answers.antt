use Rattle.std.proofs.Common.{ap, arith}
use Rattle.tw_event.specs.Order.{event_same}
use Rattle.tw_sim.specs.Ordered.{times}
use Rattle.tw_ordered.proofs.Lists.{in_order_none}
use Rattle.tw_calendar.proofs.Turns.{each_empty, no_turn}
use Rattle.tw_calendar.proofs.ring.Ring.new.Goals as goal

pub invariant_of-result : goal.invariant_of-result
invariant_of-result c =
    let lists = c.in_ok-buckets.buckets.items in
    record {
      taken = omega arith;
      rising = rw c.new.ensures tt;
      begun = λ e there. let z = ap (times event_same e) c.new.ensures in absurd (omega arith);
      turn = no_turn (λ e. e.time) 0 c.new-2.result lists c.new-2.ensures c.in_ok-buckets.ensures.number (each_empty lists c.in_ok-buckets.ensures.empty);
    }

pub returns : goal.returns
returns c =
    let lists = c.in_ok-buckets.buckets.items in
    rw c.new.ensures (in_order_none lists (each_empty lists c.in_ok-buckets.ensures.empty))
