use Rattle.tw_instance.specs.Chains.{AreRests}
use Rattle.tw_instance.proofs.chains.rests_of.Given as goal

abbrev pub invariant-loop-number : goal.invariant-loop-number
invariant-loop-number l = AreRests l.instance l.number l.rests.items
