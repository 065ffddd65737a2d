use Rattle.std.proofs.Common.{◌<◌, sym, subst}
use Rattle.crossbeam_queue.specs.Passes.{view}
use Rattle.tw_exchange.specs.Board.{workers}
use Rattle.tw_table.specs.Views.{IsVisitedBy, taken}
use Rattle.tw_table.proofs.Seats.{halted_taken, holding, not_visited, owners_taken, there, workers_taken}
use Rattle.tw_table.proofs.table.Table.take.Goals as goal

pub invariant_of-result : goal.invariant_of-result
invariant_of-result g c =
    let seat = c.args.seat in
    let told = c.pop.ensures in
    record {
      holds = holding seat.worker seat.bound seat.halted (view seat.pass) _ _ seat.waits told.view told.knows;
      there = subst (λ x. seat.worker < workers x) (sym c.exchange.view_is) (there seat.worker (view seat.pass).shares c.pop.result seat.waits.share told.met);
      visited = subst (IsVisitedBy seat.worker (taken (view c.pop.new.pass))) (sym c.exchange.view_is) (not_visited seat.worker (view seat.pass) _ _ told.view);
    }

pub returns-clause-workers : goal.returns-clause-workers
returns-clause-workers g c =
    let seat = c.args.seat in
    let told = c.pop.ensures in
    workers_taken seat.worker seat.bound _ seat.halted (view seat.pass) _ _ seat.waits told.view told.knows c.requires.seat.workers

pub returns-clause-owners : goal.returns-clause-owners
returns-clause-owners g c =
    let seat = c.args.seat in
    let told = c.pop.ensures in
    owners_taken seat.worker seat.bound _ seat.halted (view seat.pass) _ _ seat.waits told.view told.knows c.requires.seat.owners

pub returns-clause-halted : goal.returns-clause-halted
returns-clause-halted g c =
    let seat = c.args.seat in
    let told = c.pop.ensures in
    halted_taken seat.worker seat.bound seat.halted (view seat.pass) _ _ seat.waits told.view told.knows
