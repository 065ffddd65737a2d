use Rattle.std.proofs.Common.{◌≡◌, ℕ, ◌*◌, ◌<◌, None}
use Rattle.std.specs.List.{flat_map}
use Rattle.tw_shape.specs.Verdict.{is_again}
use Rattle.tw_shape.specs.Watch.{after_first, gap_checkpoints}
use Rattle.tw_shape.proofs.Searching.{time_first}
use Rattle.tw_shape.proofs.watch.first_finding.Given as goal

-- the first checkpoints of the gap show no shape from before
abbrev pub invariant-loop-number : goal.invariant-loop-number
invariant-loop-number l = record {
  gaps : l.gaps ≡ l.initial.gaps;
  gap : l.gap ≡ l.initial.gap;
  none : (i : ℕ) → i < l.number → time_first (is_again l.every (after_first l.initial.gap (i * l.every))) (flat_map (gap_checkpoints l.every) l.initial.gaps) ≡ None;
}
