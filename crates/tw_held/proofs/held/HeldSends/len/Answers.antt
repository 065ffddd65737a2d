use Rattle.std.proofs.Common.{subst}
use Rattle.tw_event.specs.Order.{event_before, event_same}
use Rattle.tw_sim.proofs.Ordered.{rising-insert_all}
use Rattle.tw_held.specs.Held.{IsHeld}
use Rattle.tw_ordered.proofs.Events.{event_law}
use Rattle.tw_held.proofs.held.HeldSends.len.Goals as goal

pub returns-clause-held : goal.returns-clause-held
returns-clause-held c =
    let a = c.self.inside in
    let v = c.self.invariant in
    subst IsHeld c.self.view_is (record {
      rising = rising-insert_all event_before event_same event_law a.spare.items a.table v.rising;
      senders = v.senders;
    })
