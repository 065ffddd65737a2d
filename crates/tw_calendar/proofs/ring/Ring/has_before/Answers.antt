use Rattle.std.proofs.Common.{◌∙◌}
use Rattle.tw_ordered.specs.Buckets.{together}
use Rattle.tw_ordered.specs.Queue.{is_before}
use Rattle.tw_calendar.specs.Ring.{hand_of}
use Rattle.tw_calendar.proofs.Early.{any_together, found_first, found_next}
use Rattle.tw_calendar.proofs.ring.Ring.has_before.Goals as goal

pub returns-then-has_before : goal.returns-then-has_before
returns-then-has_before c =
    let a = c.self.inside in
    let found = c.has_before.result in
    found_first (is_before c.args.router c.args.limit) found found (hand_of a) (together a.buckets.items) c.args.self.now c.self.view_is c.has_before.ensures c.if-has_before.true

pub returns-else-has_before : goal.returns-else-has_before
returns-else-has_before c =
    let a = c.self.inside in
    let p = is_before c.args.router c.args.limit in
    found_next p c.has_before.result c.any_in_buckets.result (hand_of a) (together a.buckets.items) c.args.self.now c.self.view_is c.has_before.ensures c.if-has_before.false
    (rw c.deref.ensures.value at c.any_in_buckets.ensures ∙ any_together p a.buckets.items)
