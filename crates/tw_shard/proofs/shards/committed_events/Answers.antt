use Rattle.tw_shard.proofs.CommittedEvents.{sorted_committed}
use Rattle.tw_shard.proofs.shards.committed_events.Goals as goal

pub returns : goal.returns
returns c =
    sorted_committed c.args.case.now c.add_by_router.ensures.case c.args.shards.now c.requires.retained c.add_by_router.new.events.items c.sort_unstable.new.self.items
    c.in_ok-add_by_router.ensures.events c.sort_unstable.ensures.permutation c.sort_unstable.ensures.sorted
