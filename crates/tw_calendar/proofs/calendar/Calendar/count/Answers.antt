use Rattle.std.proofs.Common.{arith}
use Rattle.tw_calendar.proofs.Stacked.{counted}
use Rattle.tw_calendar.proofs.calendar.Calendar.count.Goals as goal

pub returns : goal.returns
returns c =
    let a = c.self.inside in
    let n = counted c.args.event.now a.ring a.wheel c.args.self.now c.self.view_is in
    let r = c.count.ensures.times in
    let s = c.count-2.ensures.times in
    omega arith
