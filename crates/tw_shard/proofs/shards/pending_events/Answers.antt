use Rattle.std.proofs.Common.{[], flat_map, ap, ◌∙◌, arith}
use Rattle.tw_event.specs.Order.{event_same}
use Rattle.tw_ordered.proofs.Spares.{sorted_whole}
use Rattle.tw_shard.specs.Shard.{Shard}
use Rattle.tw_sim.specs.Ordered.{times}
use Rattle.tw_shard.proofs.shards.pending_events.Goals as goal

pub returns : goal.returns
returns c =
    let all = flat_map (λ (s : Shard). s.pending) c.args.shards.now in
    sorted_whole all [] c.sort_unstable.new.self.items c.in_ok-events.events.items tt (λ e. ap (times event_same e) c.in_ok-events.ensures ∙ omega arith)
    c.sort_unstable.ensures.permutation c.sort_unstable.ensures.sorted
