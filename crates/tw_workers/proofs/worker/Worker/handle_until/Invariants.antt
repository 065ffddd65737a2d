use Rattle.std.proofs.Common.{◌≡◌, []}
use Rattle.tw_workers.specs.Work.{StillPreserves}
use Rattle.tw_workers.proofs.worker.Worker.handle_until.Given as goal

abbrev pub invariant-loop : goal.invariant-loop
invariant-loop l = record {
  kept : StillPreserves l.fn.self l.self;
  stop : l.self.stop ≡ l.fn.self.stop;
  mail : l.self.share.mail ≡ [];
}
