use Rattle.std.proofs.Common.{◌∙◌, arith}
use Rattle.std.proofs.lemmas.Bool.{le-ltb}
use Rattle.tw_ordered.specs.Buckets.{together}
use Rattle.tw_ordered.specs.Queue.{is_before}
use Rattle.tw_calendar.proofs.Early.{all_late, found_in}
use Rattle.tw_calendar.proofs.wheel.Wheel.has_before.Goals as goal

pub returns-then-self-limit : goal.returns-then-self-limit
returns-then-self-limit c =
    found_in (is_before c.args.router c.args.limit) c.any_in_buckets.result c.self.inside.buckets.items c.args.self.now c.self.view_is (rw c.deref.ensures.value at c.any_in_buckets.ensures)

pub returns-else-self-limit : goal.returns-else-self-limit
returns-else-self-limit c =
    let a = c.self.inside in
    le-ltb a.start c.args.limit c.if-self-limit.false
    ∙ all_late c.args.router c.args.limit (together a.buckets.items) c.args.self.now c.self.view_is (λ e there.
    let start = c.self.invariant.start e there in
    omega (arith, c.if-self-limit.false))
