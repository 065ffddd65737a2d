use Rattle.std.proofs.Common.{arith}
use Rattle.tw_ordered.proofs.Told.{on_ok}
use Rattle.tw_calendar.proofs.Stacked.{counted}
use Rattle.tw_calendar.proofs.calendar.Calendar.append_to.Goals as goal

pub returns : goal.returns
returns c = record {
  ok =
      on_ok c.append_to-2.result (λ more e.
      let a = c.self.inside in
      let n = counted e a.ring a.wheel c.args.self.now c.self.view_is in
      let b = c.in_ok-append_to.ensures.ok e in
      let d = more e in
      omega arith) c.append_to-2.ensures;
}
