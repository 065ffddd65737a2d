use Rattle.std.proofs.Common.{subst}
use Rattle.tw_threads.proofs.Joins.{left_again}
use Rattle.tw_threads.specs.Left.{IsLeft}
use Rattle.tw_threads.specs.Started.{IsStarted, MaySit}
use Rattle.tw_threads.proofs.join.join.Goals as goal

pub run-requires : goal.run-requires
run-requires g c = subst (MaySit g.W.Work.share g.W.Work.stop c.args.table.now) c.in-Aside.is c.requires

pub returns-in-Running : goal.returns-in-Running
returns-in-Running g c = λ s is.
    let left = c.join.result in
    let promise = c.in-Running.handle.promise in
    let mine = subst (IsStarted g.W.Work.share g.W.Work.stop c.args.table.now s) c.in-Running.is is in
    subst (λ u. IsLeft (g.W.Work.share left.worker) u s left.seat left.why) mine.0
    (subst (λ b. IsLeft (g.W.Work.share left.worker) promise.table.value b left.seat left.why) mine.1 c.join.ensures)

pub returns-in-Here : goal.returns-in-Here
returns-in-Here g c = λ s is. subst (IsStarted g.W.Work.share g.W.Work.stop c.args.table.now s) c.in-Here.is is

pub returns-in-Aside : goal.returns-in-Aside
returns-in-Aside g c = λ s is.
    let left = c.run.result in
    let mine = subst (IsStarted g.W.Work.share g.W.Work.stop c.args.table.now s) c.in-Aside.is is in
    left_again (g.W.Work.share left.worker) c.args.table.now s c.in-Aside.seat left.seat left.why mine.0 c.run.ensures
