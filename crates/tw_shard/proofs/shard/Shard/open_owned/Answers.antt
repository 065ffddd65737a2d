use Rattle.std.proofs.Common.{ℕ, ◌==◌, filter, slice_index_or, ap, ◌∙◌}
use Rattle.std.specs.List.{range_with_len}
use Rattle.tw_shard.proofs.shard.Shard.open_owned.Goals as goal

pub returns : goal.returns
returns c =
    let who : ℕ → ℕ = λ r. slice_index_or c.args.owners.now r c.args.workers in
    let count = c.nodes-count.ensures.value ∙ ap (λ net. net.nodes) c.instance.ensures.value in
    c.with_roster.ensures who (c.in_ok-roster.ensures.routers c.args.workers ∙ ap (λ n. filter (λ r. who r == c.args.worker) (range_with_len 0 n)) count)
