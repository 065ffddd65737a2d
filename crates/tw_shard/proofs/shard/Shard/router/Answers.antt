use Rattle.std.proofs.Common.{◌∙◌, ap}
use Rattle.tw_shard.specs.Timeline.{router_of}
use Rattle.tw_shard.proofs.Shares.{router_known}
use Rattle.tw_shard.proofs.shard.Shard.router.Goals as goal

pub returns-clause-known : goal.returns-clause-known
returns-clause-known c =
    c.router.ensures ∙ (ap router_of c.timeline.ensures.value ∙ router_known c.args.self.now c.args.router c.timeline.ensures.whole c.requires)
