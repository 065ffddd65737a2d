use Rattle.std.proofs.Common.{◌≡◌, length}
use Rattle.tw_instance.specs.Chains.{AreRows}
use Rattle.tw_instance.proofs.Chained.{count_below}
use Rattle.tw_instance.proofs.chains.Chains.rows.Given as goal

abbrev pub invariant-loop-rest : goal.invariant-loop-rest
invariant-loop-rest l = record {
  rows : AreRows l.self.rests.items l.rest l.starts.items l.numbers.items;
  counted : length l.numbers.items ≡ count_below l.self.rests.items l.rest (length l.self.rests.items);
}
