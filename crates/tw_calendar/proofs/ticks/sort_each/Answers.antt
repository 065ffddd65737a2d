use Rattle.std.proofs.Common.{◌<◌, [], length, ap, ◌∙◌, arith}
use Rattle.std.proofs.lemmas.List.{get_or_read, length-set}
use Rattle.tw_event.specs.Order.{event_same}
use Rattle.tw_sim.specs.Ordered.{times}
use Rattle.tw_ordered.proofs.Lists.{times-set}
use Rattle.tw_calendar.proofs.ticks.sort_each.Goals as goal

pub loop-place-preserved : goal.loop-place-preserved
loop-place-preserved c =
    let i = c.loop-place.place in
    let lists = c.loop-place.ticks in
    let old = c.loop-place.invariant in
    let within : i < length lists = omega (arith, old.long, c.loop-place-test.true) in
    record {
      long = length-set lists i c.sort.new.self ∙ old.long;
      count = λ e.
          let one_set = times-set i c.sort.new.self lists within e in
          let was = ap (times event_same e) (get_or_read lists i c.index-ticks-place.result within c.index-ticks-place.is []) in
          let read = ap (times event_same e) c.index-ticks-place.is in
          let same = c.sort.ensures e in
          let before = old.count e in
          omega arith;
    }
