use Rattle.std.proofs.Common.{◌<◌, length, ap, sym, subst, ◌∙◌, arith}
use Rattle.tw_event.specs.Order.{event_before}
use Rattle.tw_sim.specs.Ordered.{insert, insert_all}
use Rattle.tw_sim.proofs.Ordered.{all-insert, length-insert}
use Rattle.tw_held.specs.Held.{AreFrom}
use Rattle.tw_held.proofs.held.HeldSends.insert.Goals as goal

pub invariant_of-self-2 : goal.invariant_of-self-2
invariant_of-self-2 c =
    let a = c.self.inside in
    let v = c.self.invariant in
    let e = c.args.event in
    let old = insert_all event_before a.spare.items a.table in
    let more = c.in_ok-place.ensures.ok ∙ ap (λ xs. insert event_before e (insert_all event_before a.spare.items xs)) c.open.ensures in
    let home : e.src < a.routers = subst (λ q. e.src < q.routers) (sym c.self.view_is) c.requires in
    let long = ap (λ xs. length xs) more ∙ length-insert event_before e old in
    let counted = v.len in
    record {
      rising = c.place.ensures.rising;
      senders = subst (AreFrom a.routers) (sym more) (all-insert event_before (λ d. d.src < a.routers) e old home v.senders);
      len = omega arith;
    }
