use Rattle.std.proofs.Common.{◌≡◌, ◌++◌, length, ap, subst, ◌∙◌, arith}
use Rattle.std.specs.BinaryHeap.{heap_items}
use Rattle.tw_pending.specs.Order.{AreWith}
use Rattle.tw_pending.specs.Ring.{all_of, events_of, lists_of}
use Rattle.tw_pending.proofs.Copied.{all_behind}
use Rattle.tw_pending.proofs.pending.Pending.copy_to.Goals as goal

pub copy_to-requires : goal.copy_to-requires
copy_to-requires g c = omega (arith, c.in_ok-reserve.ensures.ok, c.in-Some.ensures)

pub copy_items-requires : goal.copy_items-requires
copy_items-requires g c = omega (arith, c.in_ok-reserve.ensures.ok, c.in-Some.ensures, c.as_slice.ensures.len)

pub copy_days-requires : goal.copy_days-requires
copy_days-requires g c =
    let waiting = c.self.invariant.1.count in
    let same = ap (λ days. length (all_of (lists_of days))) c.deref.ensures.value in
    omega (arith, c.in_ok-reserve.ensures.ok, c.in-Some.ensures, c.as_slice.ensures.len)

pub returns-clause-ok : goal.returns-clause-ok
returns-clause-ok g c =
    let a = c.self.inside in
    let items = heap_items a.heap in
    let days = lists_of a.ring.days.items in
    let old = c.args.events.now.items in
    let new : c.copy_days.new.events.items ≡ ((old ++ a.tick) ++ events_of items) ++ all_of days =
    c.copy_days.ensures
    ∙ (ap (λ ds. c.copy_items.new.events.items ++ all_of (lists_of ds)) c.deref.ensures.value
    ∙ ap (λ xs. xs ++ all_of days)
    (c.copy_items.ensures.items
    ∙ (ap (λ xs. c.copy_to.new.events.items ++ events_of xs) c.as_slice.ensures.value
    ∙ ap (λ xs. xs ++ events_of items) (c.copy_to.ensures.items ∙ ap (λ xs. xs ++ a.tick) c.in_ok-reserve.ensures.items)))) in
    subst (λ waits. AreWith g.E.Ord.cmp waits old c.copy_days.new.events.items) c.self.view_is (all_behind g.E.Ord.cmp a.tick items days old c.copy_days.new.events.items new)
