use Rattle.std.proofs.Common.{◌++◌, length, ap, arith}
use Rattle.tw_pending.proofs.Copied.{all_copied, copied, room_left}
use Rattle.tw_pending.specs.Ring.{all_of, lists_of}
use Rattle.tw_pending.proofs.copies.copy_days.Goals as goal

pub copy_list-requires : goal.copy_list-requires
copy_list-requires g c =
    let days = c.args.days.now in
    let less = room_left days c.loop-day.day-index c.day-item.result c.loop-day-test.true c.day-item.is in
    let long = ap length c.deref.ensures.value in
    omega (arith, c.loop-day.invariant.room)

pub loop-day-preserved : goal.loop-day-preserved
loop-day-preserved g c =
    let days = c.args.days.now in
    let i = c.loop-day.day-index in
    let day = c.day-item.result in
    let less = room_left days i day c.loop-day-test.true c.day-item.is in
    let long = ap length c.deref.ensures.value in
    record {
      behind = copied days i day c.loop-day-test.true c.day-item.is (c.args.events.now.items ++ all_of (lists_of days)) c.loop-day.events.items c.copy_list.new.events.items c.deref.result.now
          c.copy_list.ensures.items c.deref.ensures.value c.loop-day.invariant.behind;
      room = omega (arith, c.loop-day.invariant.room, c.copy_list.ensures.len, c.copy_list.ensures.capacity);
    }

pub returns : goal.returns
returns g c =
    let days = c.args.days.now in
    all_copied days c.loop-day.day-index c.loop-day-test.false (c.args.events.now.items ++ all_of (lists_of days)) c.loop-day.events.items c.loop-day.invariant.behind
