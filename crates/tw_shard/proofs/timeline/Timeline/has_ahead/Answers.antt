use Rattle.std.proofs.Common.{◌≡◌, ◌<◌, ◌↔◌, true, subst}
use Rattle.std.specs.List.{AllByRecursion}
use Rattle.tw_event.specs.Order.{event_same}
use Rattle.tw_sim.specs.Ordered.{times}
use Rattle.tw_shard.specs.Timeline.{Timeline}
use Rattle.tw_shard.proofs.Arrivals.{has_step}
use Rattle.tw_shard.proofs.timeline.Timeline.has_ahead.Goals as goal

pub returns-clause-value : goal.returns-clause-value
returns-clause-value c =
    let e = c.args.event.now in
    subst (λ (t : Timeline). (c.has.result ≡ true) ↔ (0 < times event_same e t.ahead)) c.self.view_is
    (has_step e c.self.inside.ahead c.has.result c.has.ensures)

pub returns-clause-past : goal.returns-clause-past
returns-clause-past c = subst (λ (t : Timeline). AllByRecursion (λ e. e.time < t.done) t.past) c.self.view_is c.self.invariant.past
