use Rattle.std.proofs.Common.{ap, ◌∙◌}
use Rattle.tw_shard.specs.Timeline.{Timeline, history, last_change_at, noted_change}
use Rattle.tw_shard.proofs.Commits.{change_now}
use Rattle.tw_shard.proofs.Rings.{noted_both}
use Rattle.tw_shard.proofs.timeline.Timeline.last_change.Goals as goal

pub returns : goal.returns
returns c =
    let a = c.self.inside in
    c.last_change_of.ensures
    ∙ (ap (λ t. noted_change t c.parts.result.1.now) c.last_change_of-older.ensures
    ∙ (noted_both a.past_change c.parts.result.0.now c.parts.result.1.now
    ∙ (ap (noted_change a.past_change) c.parts.ensures
    ∙ (change_now a.router.net a.router.node a.past.events a.ahead a.past_change c.self.invariant.noted c.self.invariant.change
    ∙ ap (λ (t : Timeline). last_change_at t.net t.node (history t)) c.self.view_is))))
