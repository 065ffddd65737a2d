use Rattle.std.proofs.Common.{◌≡◌, drop}
use Rattle.std.specs.List.{flat_map}
use Rattle.tw_shape.specs.Verdict.{is_again}
use Rattle.tw_shape.specs.Watch.{after_first, gap_checkpoints}
use Rattle.tw_shape.proofs.Searching.{time_first}
use Rattle.tw_shape.proofs.watch.first_time.Given as goal

-- nothing was found so far, so the gaps that are left decide
abbrev pub invariant-loop-i : goal.invariant-loop-i
invariant-loop-i l = record {
  gaps : l.gaps ≡ l.initial.gaps;
  gap : l.gap ≡ l.initial.gap;
  left : time_first (is_again l.every (after_first l.initial.gap l.ticks)) (flat_map (gap_checkpoints l.every) (drop l.i l.initial.gaps))
      ≡ time_first (is_again l.every (after_first l.initial.gap l.ticks)) (flat_map (gap_checkpoints l.every) l.initial.gaps);
}
