use Rattle.std.proofs.Common.{arith, refl}
use Rattle.tw_exchange.proofs.Behind.{all_joined, joins_next, none_left}
use Rattle.tw_exchange.proofs.Followed.{long_row}
use Rattle.tw_exchange.proofs.joining.join_all.Goals as goal

pub loop-worker-init : goal.loop-worker-init
loop-worker-init g c = record {
  all = refl;
  soonest_is = c.requires.soonest;
  times_is = c.requires.times;
  room = c.requires.room;
  empty = λ k below. absurd (omega arith);
  past = λ k after. refl;
}

-- a place of the lists is one of the rows beside them
pub bounds-soonest-worker : goal.bounds-soonest-worker
bounds-soonest-worker g c = long_row g.E.Timed.parts c.loop-worker.soonest c.loop-worker.mail c.loop-worker.worker c.loop-worker.invariant.soonest_is (omega arith)

pub bounds-times-worker : goal.bounds-times-worker
bounds-times-worker g c = long_row g.E.Timed.parts c.loop-worker.times c.loop-worker.lists c.loop-worker.worker c.loop-worker.invariant.times_is (omega arith)

pub loop-worker-preserved : goal.loop-worker-preserved
loop-worker-preserved g c =
    let step = c.loop-worker in
    joins_next g.E.Timed.parts step.worker step.mail step.lists c.args.mail.now c.args.lists.now step.soonest step.times c.join.new.mail c.join.new.list c.index-mail-worker.result c.index-lists-worker.result
    c.min.result step.invariant (omega arith) (omega arith) c.join.ensures.mail c.join.ensures.list c.min.ensures

pub returns-clause-mail : goal.returns-clause-mail
returns-clause-mail g c =
    let step = c.loop-worker in
    all_joined g.E.Timed.parts step.worker step.mail step.lists c.args.mail.now c.args.lists.now step.soonest step.times step.invariant (omega arith)

pub returns-clause-empty : goal.returns-clause-empty
returns-clause-empty g c =
    let step = c.loop-worker in
    λ k below. none_left g.E.Timed.parts step.worker step.mail step.lists c.args.mail.now c.args.lists.now step.soonest step.times step.invariant (omega arith) k (omega arith)

pub returns-clause-past : goal.returns-clause-past
returns-clause-past g c = λ k past. c.loop-worker.invariant.past k (omega arith)
