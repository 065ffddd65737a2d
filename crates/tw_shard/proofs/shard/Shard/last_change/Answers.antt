use Rattle.std.proofs.Common.{ap, ◌∙◌}
use Rattle.tw_shard.specs.Timeline.{Timeline, history, last_change_at}
use Rattle.tw_shard.proofs.Shares.{change_known}
use Rattle.tw_shard.proofs.shard.Shard.last_change.Goals as goal

pub returns : goal.returns
returns c =
    c.last_change.ensures
    ∙ (ap (λ (t : Timeline). last_change_at t.net t.node (history t)) c.timeline.ensures.value
    ∙ change_known c.args.self.now c.args.router c.timeline.ensures.whole c.requires)
