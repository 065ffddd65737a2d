use Rattle.std.proofs.Common.{ap, arith}
use Rattle.tw_event.specs.Order.{event_same}
use Rattle.tw_sim.specs.Ordered.{times}
use Rattle.tw_calendar.proofs.Widths.{count_sent, in_all, start_sent, turn_sent}
use Rattle.tw_calendar.proofs.wheel.Wheel.send_down.Goals as goal

pub invariant_of-self : goal.invariant_of-self
invariant_of-self c =
    let a = c.self.inside in
    let v = c.self.invariant in
    let b = c.index_mut-bucket in
    let m = c.set in
    record {
      turn =
          turn_sent a.base a.marks a.buckets.items v.turn c.first_after-place.result c.first_after-place.ensures b.result.now b.ensures.value c.put_each.new.events c.put_each.ensures.fewer
          c.len-has_more.result c.len-has_more.ensures m.new.self m.ensures.marked m.ensures.clear m.ensures.others;
      start =
          start_sent a.base a.marks a.buckets.items v.turn c.first_after-place.result c.first_after-place.ensures b.result.now b.ensures.value c.put_each.new.events c.put_each.ensures.fewer a.start
          v.start;
    }

pub invariant_of-self-2 : goal.invariant_of-self-2
invariant_of-self-2 c =
    let a = c.self.inside in
    let b = c.index_mut-bucket in
    let m = c.set in
    record {
      turn =
          turn_sent a.base a.marks a.buckets.items c.self.invariant.turn c.first_after-place.result c.first_after-place.ensures b.result.now b.ensures.value c.put_each.new.events
          c.put_each.ensures.fewer c.len-has_more.result c.len-has_more.ensures m.new.self m.ensures.marked m.ensures.clear m.ensures.others;
      start = λ e there. c.first_start-self-inside.ensures e (in_all e _ there);
    }

pub returns : goal.returns
returns c e =
    let a = c.self.inside in
    let b = c.index_mut-bucket in
    let n =
    count_sent a.base a.marks a.buckets.items c.self.invariant.turn c.first_after-place.result c.first_after-place.ensures b.result.now b.ensures.value c.put_each.new.events c.put_each.ensures.fewer
    e in
    let w = ap (times event_same e) c.self.view_is in
    let m = c.put_each.ensures.all e in
    omega arith
