use Rattle.std.proofs.Common.{◌≡◌, ℕ, ◌<◌, Some, slice_get}
use Rattle.tw_exchange.specs.Board.{who}
use Rattle.tw_parallel.specs.Moving.{AreListed, AreOldOrNamed, IsRearranged}
use Rattle.tw_parallel.specs.Sim.{IsSim}
use Rattle.tw_parallel.proofs.sim.Sim.move_each.Given as goal

abbrev pub invariant-loop-router : goal.invariant-loop-router
invariant-loop-router l = record {
  moved : (r : ℕ) → r < l.router → slice_get l.owners r ≡ Some (who l.self.board r);
  each : AreOldOrNamed l.owners l.fn.self l.self;
  listed : AreListed l.self;
  rearranged : IsRearranged l.fn.self l.self;
  sim : IsSim l.self;
}
