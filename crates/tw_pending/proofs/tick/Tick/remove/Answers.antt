use Rattle.std.proofs.Common.{◌≡◌, ◌+◌, ◌≤◌, Some, drop, length-drop, remove, slice_get, ap, sym, ◌∙◌, subst, arith}
use Rattle.std.specs.List.{prefix_len}
use Rattle.tw_sim.specs.Ordered.{one}
use Rattle.tw_pending.specs.Order.{IsInOrder, count, is_other, is_same}
use Rattle.tw_pending.specs.Ring.{IsBegun}
use Rattle.tw_pending.proofs.Removed.{all-remove, count-remove, drop-remove, found, from_place, missing, rising-remove}
use Rattle.tw_pending.proofs.tick.Tick.remove.Goals as goal

pub returns-then-place-len-clause-none : goal.returns-then-place-len-clause-none
returns-then-place-len-clause-none g c =
    let a = c.self.inside in
    let e = c.args.event.now in
    let left = drop a.taken a.events.items in
    let place : c.place_of-place.result ≡ prefix_len (is_other g.E.Ord.cmp e) left = c.place_of-place.ensures.value ∙ ap (prefix_len (is_other g.E.Ord.cmp e)) (from_place a.taken c.deref.result.now a.events.items c.deref.ensures.value) in
    let long = length-drop a.taken a.events.items in
    ap (count g.E.Ord.cmp e) (sym c.self.view_is) ∙ missing g.E.Ord.cmp e left (omega (arith, place, c.if-place-len.true, c.len.ensures, a.events.ok.0))

pub invariant_of-self : goal.invariant_of-self
invariant_of-self g c =
    let a = c.self.inside in
    let left = drop a.taken a.events.items in
    let gone = ap (drop a.taken) c.remove.ensures.items ∙ drop-remove a.taken c.place_of-place.result a.events.items in
    subst (IsInOrder g.E.Ord.cmp) (sym gone) (rising-remove g.E.Ord.cmp left c.place_of-place.result c.self.invariant)

pub returns-clause-yes : goal.returns-clause-yes
returns-clause-yes g c = λ d.
    let a = c.self.inside in
    let e = c.args.event.now in
    let i = c.place_of-place.result in
    let left = drop a.taken a.events.items in
    let place : i ≡ prefix_len (is_other g.E.Ord.cmp e) left = c.place_of-place.ensures.value ∙ ap (prefix_len (is_other g.E.Ord.cmp e)) (from_place a.taken c.deref.result.now a.events.items c.deref.ensures.value) in
    let long = length-drop a.taken a.events.items in
    let there : slice_get left i ≡ Some e = ap (slice_get left) place ∙ found g.E.Ord.cmp g.met.E.Ord.total g.met.E.Timed.exact e left (omega (arith, place, c.if-place-len.false, c.len.ensures, a.events.ok.0)) in
    let gone : drop a.taken c.remove.new.self.items ≡ remove left i = ap (drop a.taken) c.remove.ensures.items ∙ drop-remove a.taken i a.events.items in
    let less = count-remove g.E.Ord.cmp d e left i there in
    let same = ap (count g.E.Ord.cmp d) gone in
    let sum : count g.E.Ord.cmp d left ≡ one (is_same g.E.Ord.cmp) d e + 0 + count g.E.Ord.cmp d (drop a.taken c.remove.new.self.items) = omega arith in
    ap (count g.E.Ord.cmp d) (sym c.self.view_is) ∙ sum

pub returns-clause-begun : goal.returns-clause-begun
returns-clause-begun g c = λ today h.
    let a = c.self.inside in
    let left = drop a.taken a.events.items in
    let gone = ap (drop a.taken) c.remove.ensures.items ∙ drop-remove a.taken c.place_of-place.result a.events.items in
    subst (IsBegun g.E.Timed.parts.time today) (sym gone)
    (all-remove (λ e. g.E.Timed.parts.time e ≤ today) left c.place_of-place.result (subst (IsBegun g.E.Timed.parts.time today) (sym c.self.view_is) h))
