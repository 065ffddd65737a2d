use Rattle.std.proofs.Common.{ap, ◌∙◌}
use Rattle.tw_shape.specs.Same.{same_shape}
use Rattle.tw_shape.specs.Shape.{later}
use Rattle.tw_shape.proofs.Packing.{later_none}
use Rattle.tw_shape.proofs.shape.Shape.is_same.Goals as goal

pub returns-clause-value : goal.returns-clause-value
returns-clause-value c =
    c.meets.ensures.value ∙ ap (λ s. same_shape s (later 0 c.args.other.now)) (later_none c.args.self.now) ∙ ap (same_shape c.args.self.now) (later_none c.args.other.now)
