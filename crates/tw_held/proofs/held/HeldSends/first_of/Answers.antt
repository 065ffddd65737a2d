use Rattle.std.proofs.Common.{◌==◌, slice_get, ap, subst, ◌∙◌}
use Rattle.std.specs.Option.{option_copied}
use Rattle.tw_held.specs.Held.{IsHeld, sent_by}
use Rattle.tw_event.specs.Order.{event_before, event_same}
use Rattle.tw_sim.proofs.Ordered.{rising-insert_all}
use Rattle.tw_ordered.proofs.Events.{event_law}
use Rattle.tw_ordered.specs.InOrder.{least_with}
use Rattle.tw_ordered.proofs.Spares.{least_passing}
use Rattle.tw_held.proofs.held.HeldSends.first_of.Goals as goal

pub returns-clause-first : goal.returns-clause-first
returns-clause-first c =
    let a = c.self.inside in
    let r = c.args.router in
    c.least_from.ensures ∙ ap (λ xs. least_with (option_copied c.first_of.result) (sent_by r xs)) c.deref.ensures.value ∙ ap (λ o. least_with o (sent_by r a.spare.items)) c.first_of.ensures
    ∙ least_passing (λ e. e.src == r) a.spare.items a.table c.self.invariant.rising ∙ ap (λ q. slice_get (sent_by r q.events) 0) c.self.view_is

pub returns-clause-held : goal.returns-clause-held
returns-clause-held c =
    let a = c.self.inside in
    let v = c.self.invariant in
    subst IsHeld c.self.view_is (record {
      rising = rising-insert_all event_before event_same event_law a.spare.items a.table v.rising;
      senders = v.senders;
    })
