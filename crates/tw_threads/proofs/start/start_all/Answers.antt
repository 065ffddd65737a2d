use Rattle.std.proofs.Common.{◌∷◌, length, ap, ◌∙◌, subst, arith}
use Rattle.std.proofs.lemmas.List.{nil_from_length}
use Rattle.std.specs.Vec.Iter.{into_iter_items}
use Rattle.tw_threads.proofs.Starts.{AreWaiting, all_started, one_started}
use Rattle.tw_threads.proofs.start.start_all.Goals as goal

pub loop-worker-preserved : goal.loop-worker-preserved
loop-worker-preserved g c =
    let was = c.loop-worker.invariant in
    let of = g.W.Work.share in
    let to = g.W.Work.stop in
    let t = c.args.table.now in
    let all = c.args.seats.items in
    let worker = c.in-Some.ensures.steps in
    let seat = c.in-Some-next.ensures.cases in
    let pushed = c.push_reserved.ensures in
    let waiting : AreWaiting of to t all (c.in-Some-next.seat ∷ into_iter_items c.next-in-loop-worker.new.self) (c.in-Some.worker ∷ into_iter_items c.next.new.self) c.loop-worker.started.items
    = subst (λ ss. AreWaiting of to t all ss (c.in-Some.worker ∷ into_iter_items c.next.new.self) c.loop-worker.started.items) seat.0
    (subst (λ ws. AreWaiting of to t all (into_iter_items c.loop-worker.seats) ws c.loop-worker.started.items) worker.0 was.waiting) in
    record {
      waiting = one_started of to t all c.in-Some-next.seat (into_iter_items c.next-in-loop-worker.new.self) c.in-Some.worker (into_iter_items c.next.new.self)
          c.loop-worker.started.items c.push_reserved.new.self.items c.start-one.result waiting c.start-one.ensures pushed.items;
      count = omega (arith, was.count, worker.1, pushed.len);
      room = omega (arith, was.room, worker.1, pushed.len, pushed.capacity);
      rest = (let long = ap length worker.0 in omega (arith, was.rest, worker.1, long));
      seats = (let long = ap length seat.0 in omega (arith, was.seats, seat.1, long));
    }

pub returns-clause-started : goal.returns-clause-started
returns-clause-started g c =
    let was = c.loop-worker.invariant in
    let of = g.W.Work.share in
    let to = g.W.Work.stop in
    let t = c.args.table.now in
    let all = c.args.seats.items in
    let none = nil_from_length (into_iter_items c.loop-worker.worker-iterator) (was.rest ∙ c.in-None.ensures.steps.0) in
    all_started of to t all (into_iter_items c.loop-worker.seats) c.loop-worker.started.items
    (subst (λ ws. AreWaiting of to t all (into_iter_items c.loop-worker.seats) ws c.loop-worker.started.items) none was.waiting)
