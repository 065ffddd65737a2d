use Rattle.std.proofs.Common.{◌+◌, ◌≤◌, ◌++◌, append_assoc, drop, length, map, true, ap, sym, ◌∙◌, subst, arith}
use Rattle.std.specs.Prelude.{vec_capacity, vec_len}
use Rattle.std.proofs.lemmas.List.{length-drop}
use Rattle.tw_core.specs.Steps.{to_send}
use Rattle.tw_model.specs.Case.{simulation}
use Rattle.tw_shard.specs.Timeline.{signed}
use Rattle.tw_shard.proofs.Holding.{all_held, all_sent, one_held, one_matched, one_sent}
use Rattle.tw_shard.proofs.timeline.send_unheld.Goals as goal
use Rattle.tw_shard.proofs.timeline.send_unheld.Goals.{then-not-remove_one, else-not-remove_one}

pub loop-event-preserved : goal.loop-event-preserved
loop-event-preserved c =
    let events = c.args.events.now in
    let i = c.loop-event.event-index in
    let inv = c.loop-event.invariant in
    let held = c.loop-event.held.events in
    let now = c.remove_one.new.self.events in
    let more = c.loop-event-test.true in
    let taken = c.remove_one.ensures.events in
    let left = length-drop c.loop-event.event-index events in
    let less = length-drop (c.loop-event.event-index + 1) events in
    let room = inv.room in
    elim c.if-not-remove_one.branch [
      | then-not-remove_one w ↦ (
          let len = w.push_reserved.ensures.len in
          let capacity = w.push_reserved.ensures.capacity in
          record {
            room = subst (λ v. vec_len v + length (drop (i + 1) events) ≤ vec_capacity v) (sym w.outgoing-is) (omega arith);
            items = λ case.
                ap (λ l. l ++ map (signed true) (to_send (simulation case) (drop (i + 1) events) now)) (ap (λ v. v.items) w.outgoing-is ∙ w.push_reserved.ensures.items)
                ∙ (append_assoc c.loop-event.outgoing.items _ _
                ∙ (ap (λ l. c.loop-event.outgoing.items ++ map (signed true) l) (one_sent case events held now i _ more taken (λ some. cc (c.remove_one.ensures.found.1 some, w.if-not-remove_one.true))) ∙ inv.items case));
            held = λ case. one_held case events held now i _ more taken ∙ inv.held case;
            routers = c.remove_one.ensures.routers ∙ inv.routers;
          })
      | else-not-remove_one w ↦ (
          let some = c.remove_one.ensures.found.0 w.if-not-remove_one.false in
          record {
            room = subst (λ v. vec_len v + length (drop (i + 1) events) ≤ vec_capacity v) (sym w.outgoing-is) (omega arith);
            items = λ case.
                ap (λ v. v.items ++ map (signed true) (to_send (simulation case) (drop (i + 1) events) now)) w.outgoing-is
                ∙ (ap (λ l. c.loop-event.outgoing.items ++ map (signed true) l) (one_matched case events held now i _ more taken some) ∙ inv.items case);
            held = λ case. one_held case events held now i _ more taken ∙ inv.held case;
            routers = c.remove_one.ensures.routers ∙ inv.routers;
          })
    ]

pub returns-clause-sends : goal.returns-clause-sends
returns-clause-sends c = λ case.
    all_sent case c.args.events.now c.loop-event.held.events c.loop-event.outgoing.items c.loop-event.event-index c.loop-event-test.false ∙ c.loop-event.invariant.items case

pub returns-clause-held : goal.returns-clause-held
returns-clause-held c = λ case.
    all_held case c.args.events.now c.loop-event.held.events c.loop-event.event-index c.loop-event-test.false ∙ c.loop-event.invariant.held case
