use Rattle.std.proofs.Common.{ap, ◌∙◌, subst}
use Rattle.tw_threads.specs.Left.{IsLeft}
use Rattle.tw_threads.proofs.start.start_thread.Goals as goal

pub returns-in-Ok : goal.returns-in-Ok
returns-in-Ok g c =
    let promise = c.in-Ok.ensures.ok in
    (ap (λ p. p.table.value) promise ∙ c.of.ensures, ap (λ p. p.seat.value) promise ∙ c.of-2.ensures)

pub returns-in-Err : goal.returns-in-Err
returns-in-Err g c =
    let same = c.in-Err.ensures.err in
    let back = c.in-Err.back.value in
    let left = c.turns.result in
    let share = g.W.Work.share left.worker in
    subst (λ t. IsLeft share t c.args.seat left.seat left.why) (λ i. (same i).1.now)
    (subst (λ s. IsLeft share back.1.now s left.seat left.why) (λ i. (same i).5) c.turns.ensures)
