use Rattle.std.proofs.Common.{sym, inl, inr}
use Rattle.std.proofs.lemmas.Bool.{cases_Bool}
use Rattle.tw_shape.proofs.Firsts.{cannot_find, found_unlike}
use Rattle.tw_shape.specs.Shape.{can_repeat}
use Rattle.tw_shape.specs.Watch.{checkpoints_in}
use Rattle.tw_shape.proofs.watch.Watch.find.Goals as goal

pub returns-then-not-may_have-clause-value : goal.returns-then-not-may_have-clause-value
returns-then-not-may_have-clause-value c =
    elim (cases_Bool (can_repeat c.args.gap.now.shape)) [
      | inl can ↦
          sym (found_unlike c.args.self.now c.args.gap.now c.may_have.ensures.some c.requires.timely c.may_have.ensures.timely (c.may_have.ensures.never c.if-not-may_have.true) c.requires.later can)
      | inr never ↦ sym (cannot_find c.args.self.now.every (checkpoints_in c.args.self.now) c.args.gap.now never)
    ]

pub returns-then-not-can_repeat-clause-value : goal.returns-then-not-can_repeat-clause-value
returns-then-not-can_repeat-clause-value c = sym (cannot_find c.args.self.now.every (checkpoints_in c.args.self.now) c.args.gap.now (sym c.if-not-can_repeat.ensures))
