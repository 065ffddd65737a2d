use Rattle.std.proofs.Common.{ap, ◌∙◌}
use Rattle.tw_shard.proofs.Openings.{opening_home}
use Rattle.tw_shard.proofs.shard.open.opening_queue.Goals as goal

pub insert_own-requires : goal.insert_own-requires
insert_own-requires c =
    opening_home c.args.case.now c.in_ok-pending.pending.routers c.openings.result.now c.openings.ensures.case c.openings.ensures.value
    (c.in_ok-pending.ensures.routers ∙ (c.nodes.ensures.value ∙ ap (λ net. net.nodes) c.instance.ensures.value))
