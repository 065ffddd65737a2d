use Rattle.std.proofs.Common.{ap, arith}
use Rattle.tw_event.specs.Order.{event_same}
use Rattle.tw_sim.specs.Ordered.{times}
use Rattle.tw_calendar.specs.Wheel.{width_of}
use Rattle.tw_ordered.proofs.Lists.{in_order_none, together_none}
use Rattle.tw_calendar.proofs.Turns.{each_empty, no_turn}
use Rattle.tw_calendar.proofs.wheel.Wheel.new.Goals as goal

pub invariant_of-result : goal.invariant_of-result
invariant_of-result c =
    let lists = c.in_ok-buckets.buckets.items in
    let empty = each_empty lists c.in_ok-buckets.ensures.empty in
    record {
      turn = no_turn width_of 0 c.new.result lists c.new.ensures c.in_ok-buckets.ensures.number empty;
      start = λ e there.
          let z = ap (times event_same e) (together_none lists empty) in
          absurd (omega arith);
    }

pub returns : goal.returns
returns c =
    let lists = c.in_ok-buckets.buckets.items in
    in_order_none lists (each_empty lists c.in_ok-buckets.ensures.empty)
