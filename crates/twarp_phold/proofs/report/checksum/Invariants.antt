use Rattle.std.proofs.Common.{◌≡◌, map}
use Rattle.std.specs.List.{range_with_len}
use Rattle.tw_phold.specs.Phold.{checksum}
use Rattle.twarp_phold.specs.Report.{knows}
use Rattle.twarp_phold.proofs.report.checksum.Given as goal

-- the checksum of the states before
abbrev pub invariant-loop-number : goal.invariant-loop-number
invariant-loop-number g l = l.sum ≡ checksum (map (knows (g.E.Ended.phold l.run) (g.E.Ended.end l.run)) (range_with_len 0 l.number))
