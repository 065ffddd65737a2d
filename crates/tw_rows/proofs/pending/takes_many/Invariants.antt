use Rattle.std.proofs.Common.{◌≡◌}
use Rattle.tw_rows.proofs.pending.takes_many.Given as goal

abbrev pub invariant-loop-seq : goal.invariant-loop-seq
invariant-loop-seq l = l.pending.routers ≡ 3
