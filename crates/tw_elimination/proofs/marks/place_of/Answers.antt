use Rattle.tw_event.specs.declared.event.PathNo.{PathNo}
use Rattle.tw_router.proofs.Places.{place_of-distinct}
use Rattle.tw_elimination.proofs.marks.place_of.Goals as goal

pub returns-then-order-line-clause-value : goal.returns-then-order-line-clause-value
returns-then-order-line-clause-value c =
    let d : PathNo = record { 0 = 0 } in
    place_of-distinct c.args.order.now c.args.line c.args.path d c.requires c.if-line-order.true c.if-order-line.true
