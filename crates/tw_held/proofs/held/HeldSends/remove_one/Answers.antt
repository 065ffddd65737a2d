use Rattle.std.proofs.Common.{◌<◌, length, ap, sym, subst, ◌∙◌, arith}
use Rattle.tw_event.specs.Order.{event_before, event_same}
use Rattle.tw_sim.specs.Ordered.{insert_all}
use Rattle.tw_held.specs.Held.{AreFrom}
use Rattle.tw_ordered.proofs.Events.{event_law}
use Rattle.tw_ordered.proofs.Ordered.{all-take_out, length-take_out, take_out_none}
use Rattle.tw_ordered.proofs.Spares.{missing}
use Rattle.tw_held.proofs.held.HeldSends.remove_one.Goals as goal

pub invariant_of-self : goal.invariant_of-self
invariant_of-self c =
    let a = c.self.inside in
    let v = c.self.invariant in
    let e = c.args.event.now in
    let all = insert_all event_before a.spare.items a.table in
    let less = c.take_from-removed.ensures.events in
    let long = ap (λ xs. length xs) less in
    let one = length-take_out event_before event_same event_law e all (c.take_from-removed.ensures.found.0 c.if-removed.true) in
    let counted = v.len in
    record {
      rising = c.take_from-removed.ensures.rising;
      senders = subst (AreFrom a.routers) (sym less) (all-take_out event_before event_same (λ d. d.src < a.routers) e all v.senders);
      len = omega arith;
    }

pub invariant_of-self-else-removed : goal.invariant_of-self-else-removed
invariant_of-self-else-removed c =
    let a = c.self.inside in
    let v = c.self.invariant in
    let e = c.args.event.now in
    let all = insert_all event_before a.spare.items a.table in
    let absent = missing e all c.take_from-removed.result c.if-removed.false c.take_from-removed.ensures.found.1 in
    let same = c.take_from-removed.ensures.events ∙ take_out_none event_before event_same event_law e all absent in
    record {
      rising = c.take_from-removed.ensures.rising;
      senders = subst (AreFrom a.routers) (sym same) v.senders;
      len = v.len ∙ sym (ap (λ xs. length xs) same);
    }
