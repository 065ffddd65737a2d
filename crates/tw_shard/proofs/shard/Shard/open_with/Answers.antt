use Rattle.std.proofs.Common.{◌==◌, filter, ap, ◌∙◌}
use Rattle.std.specs.List.{range_with_len}
use Rattle.tw_sim.specs.Owners.{owner}
use Rattle.tw_shard.proofs.shard.Shard.open_with.Goals as goal

pub returns : goal.returns
returns c =
    let who = owner c.args.workers in
    let count = c.nodes-count.ensures.value ∙ ap (λ net. net.nodes) c.instance.ensures.value in
    c.with_roster.ensures who (c.in_ok-roster.ensures.routers ∙ ap (λ n. filter (λ r. who r == c.args.worker) (range_with_len 0 n)) count)
