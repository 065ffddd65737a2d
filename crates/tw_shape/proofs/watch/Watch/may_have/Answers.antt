use Rattle.std.proofs.Common.{List, ap, subst, sym, ◌∙◌, arith}
use Rattle.std.specs.List.{All}
use Rattle.tw_shape.specs.declared.watch.Gap.{Gap}
use Rattle.tw_shape.specs.Same.{NeverMeet}
use Rattle.tw_shape.proofs.Searching.{apart_more}
use Rattle.tw_shape.proofs.watch.Watch.may_have.Goals as goal

pub loop-old-init : goal.loop-old-init
loop-old-init c =
    (tt, tt, subst (λ (l : List Gap). All (λ g. NeverMeet g.shape c.args.shape.now) l) (c.into_iter-old-iterator.ensures.into_iter_gives.0 ∙ ap (λ v. v.window) c.self.view_is))

pub loop-old-preserved : goal.loop-old-preserved
loop-old-preserved c = (
  tt,
  tt,
  apart_more c.args.shape.now c.args.self.now.window c.loop-old.old-iterator c.next.new.self c.in-Some.old.now
      c.in-Some.ensures.steps (c.may_meet.ensures c.if-may_meet.false) c.loop-old.invariant.2,
)

pub returns-clause-never : goal.returns-clause-never
returns-clause-never c never = c.loop-old.invariant.2 (subst (λ (l : List Gap). All (λ g. NeverMeet g.shape c.args.shape.now) l) (sym c.in-None.ensures.steps.0) (λ k d l. absurd (omega arith)))
