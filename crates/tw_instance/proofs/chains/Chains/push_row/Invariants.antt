use Rattle.std.proofs.Common.{◌≡◌, ◌≤◌, ◌++◌, length, map}
use Rattle.tw_instance.specs.Chains.{row_of}
use Rattle.tw_instance.proofs.Chained.{ahead, chain}
use Rattle.tw_instance.proofs.chains.Chains.push_row.Given as goal

abbrev pub invariant-loop-next : goal.invariant-loop-next
invariant-loop-next l = record {
  within : ahead l.next ≤ length l.self.rests.items;
  rest : l.numbers.items ++ map (λ k. record { 0 = k }) (chain l.self.rests.items l.next) ≡ l.initial.numbers.items ++ row_of l.self.rests.items l.rest;
}

abbrev pub decreases-loop-next : goal.decreases-loop-next
decreases-loop-next l = ahead l.next
