use Rattle.std.proofs.Common.{◌≡◌, ◌<◌, ◌++◌, None, Some, [], length, slice_get, ap, sym, ◌∙◌, subst}
use Rattle.std.specs.Bool.{OnFalse, OnTrue}
use Rattle.std.proofs.lemmas.List.{drop_all, get_or_read}
use Rattle.tw_event.specs.Order.{event_before}
use Rattle.tw_ordered.specs.Buckets.{together}
use Rattle.tw_ordered.specs.InOrder.{in_order, least_with}
use Rattle.tw_calendar.specs.Ring.{hand_of}
use Rattle.tw_calendar.proofs.Rings.{first_of_place, first_taken, inside, slice_left, some_left}
use Rattle.tw_calendar.proofs.ring.Ring.copy_least.Goals as goal

pub returns-then-copy-clause-some : goal.returns-then-copy-clause-some
returns-then-copy-clause-some c =
    let a = c.self.inside in
    let v = c.self.invariant in
    let told = c.if-copy.ensures in
    told.some ∙ slice_left a.taken a.hand ∙ first_taken a.tick (together a.buckets.items) v.turn.after (hand_of a) (some_left a.taken a.hand told.within) v.rising v.begun
    ∙ ap (λ r. slice_get r 0) c.self.view_is

-- the least of the first bucket
least : (c : goal.After-copy_least) → least_with None c.index.result.now ≡ slice_get c.args.self.now 0
least c =
    let a = c.self.inside in
    let v = c.self.invariant in
    let p = c.first_after.result in
    let none : hand_of a ≡ [] = drop_all a.taken a.hand c.if-copy.ensures.beyond in
    let in_it : p < length a.buckets.items = inside a.tick a.marks a.buckets.items v.turn p c.first_after.ensures in
    ap (least_with None) (get_or_read a.buckets.items p c.index.result.now in_it c.index.ensures [])
    ∙ first_of_place a.tick a.marks a.buckets.items v.turn p c.first_after.ensures
    ∙ ap (λ hand. slice_get (in_order event_before (hand ++ together a.buckets.items)) 0) (sym none) ∙ ap (λ r. slice_get r 0) c.self.view_is

pub returns-clause-some : goal.returns-clause-some
returns-clause-some c =
    subst (λ o. OnTrue c.copy_least.result (Some c.copy_least.new.event ≡ o)) (least c) c.copy_least.ensures.some

pub returns-clause-beyond : goal.returns-clause-beyond
returns-clause-beyond c = subst (λ o. OnFalse c.copy_least.result (o ≡ None)) (least c) c.copy_least.ensures.beyond
