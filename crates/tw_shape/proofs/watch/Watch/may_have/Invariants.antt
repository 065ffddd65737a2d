use Rattle.std.specs.List.{All}
use Rattle.tw_shape.specs.Same.{NeverMeet}
use Rattle.tw_shape.proofs.watch.Watch.may_have.Given as goal

-- no gap so far has such a shape
abbrev pub invariant-loop-old : goal.invariant-loop-old
invariant-loop-old l =
    (goal.iterator-loop-old).can_next l.old-iterator × (goal.iterator-loop-old).is_finite l.old-iterator
    × (All (λ g. NeverMeet g.shape l.shape) l.old-iterator → All (λ g. NeverMeet g.shape l.shape) l.self.window)
