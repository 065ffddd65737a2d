use Rattle.std.proofs.Common.{arith}
use Rattle.tw_seq.specs.Thread.{run_of}
use Rattle.tw_seq.proofs.Going.{begun_later}
use Rattle.tw_seq.proofs.one_thread.OneThread.raise_stop.Goals as goal

pub invariant_of-self : goal.invariant_of-self
invariant_of-self c = record {
  begun = begun_later (run_of c.self.inside) c.args.stop (omega arith) c.self.invariant.begun;
  waiting = c.self.invariant.waiting;
  stop = c.requires;
  routers = c.self.invariant.routers;
  homes = c.self.invariant.homes;
  change = c.self.invariant.change;
  sent = c.self.invariant.sent;
}

pub returns-then-self-stop-clause-begun : goal.returns-then-self-stop-clause-begun
returns-then-self-stop-clause-begun c = begun_later (run_of c.self.inside) c.args.stop (omega arith) c.self.invariant.begun
