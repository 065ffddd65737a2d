use Rattle.std.proofs.Common.{◌+◌, length}
use Rattle.tw_instance.specs.Chains.{AreChained}
use Rattle.tw_instance.proofs.chains.Chains.new.Given as goal

abbrev pub invariant-loop-number : goal.invariant-loop-number
invariant-loop-number l = AreChained l.fn.rests.items (length l.fn.rests.items + 1) l.number l.last.items l.before.items
