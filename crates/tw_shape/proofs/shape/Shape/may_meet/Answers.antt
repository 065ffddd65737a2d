use Rattle.std.proofs.lemmas.Bool.{eqb-false, false_from_ne_true}
use Rattle.tw_shape.specs.Same.{same_shape}
use Rattle.tw_shape.specs.Shape.{later}
use Rattle.tw_shape.proofs.Packing.{hash_alike}
use Rattle.tw_shape.proofs.Sameness.{shape_decides}
use Rattle.tw_shape.proofs.shape.Shape.may_meet.Goals as goal

pub returns : goal.returns
returns c h d e still too =
    false_from_ne_true (same_shape (later d c.args.self.now) (later e c.args.other.now)) (λ same.
    eqb-false c.self.inside.hash c.other.inside.hash h
    (hash_alike c.self.inside c.other.inside c.self.invariant c.other.invariant c.args.self.now c.args.other.now c.self.view_is c.other.view_is d e still too
    ((shape_decides (later d c.args.self.now) (later e c.args.other.now)).0 same)))
