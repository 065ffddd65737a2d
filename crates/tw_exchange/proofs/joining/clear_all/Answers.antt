use Rattle.std.proofs.Common.{arith}
use Rattle.tw_exchange.proofs.Behind.{all_emptied, cleared, emptied}
use Rattle.tw_exchange.proofs.Followed.{long_row}
use Rattle.tw_exchange.proofs.joining.clear_all.Goals as goal

pub bounds-times-worker : goal.bounds-times-worker
bounds-times-worker g c = long_row g.E.Timed.parts c.loop-worker.times c.loop-worker.lists c.loop-worker.worker c.loop-worker.invariant.times (omega arith)

pub loop-worker-preserved : goal.loop-worker-preserved
loop-worker-preserved g c =
    let step = c.loop-worker in
    record {
      times = cleared g.E.Timed.parts step.lists step.times step.worker c.clear.new.self step.invariant.times c.clear.ensures.items;
      empty = emptied g.E.Timed.parts step.lists step.worker c.clear.new.self c.clear.ensures.items (omega arith) step.invariant.empty;
    }

pub returns-clause-lists : goal.returns-clause-lists
returns-clause-lists g c = all_emptied g.E.Timed.parts c.loop-worker.lists c.loop-worker.worker c.loop-worker.invariant.empty (omega arith)
