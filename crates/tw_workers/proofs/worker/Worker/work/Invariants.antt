use Rattle.std.proofs.Common.{◌≡◌, false}
use Rattle.tw_table.specs.Seats.{halted_at}
use Rattle.tw_workers.specs.Seated.{HasTurned}
use Rattle.tw_workers.proofs.worker.Worker.work.Given as goal

-- the worker has taken turns, or none, and was not told to take no further one
abbrev pub invariant-loop : goal.invariant-loop
invariant-loop g l = record {
  turned : HasTurned l.fn.table l.fn.seat l.seat l.fn.self l.self;
  first : halted_at l.fn.seat ≡ false;
  going : halted_at l.seat ≡ false;
}
