use Rattle.std.proofs.Common.{◌≡◌, ◌≤◌, max}
use Rattle.tw_rounds.proofs.rounds.Rounds.run_to.Given as goal

abbrev pub invariant-loop : goal.invariant-loop
invariant-loop g l = record {
  model : l.self.model ≡ l.fn.self.model;
  stop : l.self.stop ≡ max l.fn.self.stop l.fn.stop;
  rises : l.fn.self.bound ≤ l.self.bound;
}
