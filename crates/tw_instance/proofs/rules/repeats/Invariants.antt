use Rattle.std.proofs.Common.{◌≡◌, drop}
use Rattle.tw_model.specs.Rules.{repeats}
use Rattle.tw_instance.proofs.Marks.{meets}
use Rattle.tw_instance.proofs.rules.repeats.Given as goal

abbrev pub invariant-loop-i : goal.invariant-loop-i
invariant-loop-i l = meets l.marks (drop l.i l.nodes) ≡ repeats l.nodes
