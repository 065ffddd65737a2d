use Rattle.std.proofs.Common.{◌+◌, ◌++◌, ◌∷◌, drop, min, ap, sym, ◌∙◌}
use Rattle.std.specs.Option.{option_map_or}
use Rattle.tw_model.specs.Case.{simulation}
use Rattle.tw_warp.specs.Bounds.{least_of_all}
use Rattle.tw_warp.proofs.Bounds.{min_reduced}
use Rattle.tw_warp.proofs.Walks.{drop_next}
use Rattle.tw_warp.proofs.least.least_waiting.Goals as goal

pub loop-shard-preserved : goal.loop-shard-preserved
loop-shard-preserved c = λ case.
    let m = simulation case in
    let s = c.shard-item.result in
    let i = c.loop-shard.shard-index in
    let least = c.lesser-least.ensures ∙ (ap (λ o. option_map_or (λ o. min c.loop-shard.least o) o c.loop-shard.least) c.report_time.ensures
    ∙ min_reduced m (s.pending ++ s.kept ++ s.held) c.loop-shard.least) in
    let next = drop_next c.args.shards.now i s c.loop-shard-test.true ∙ ap (λ t. t ∷ drop (i + 1) c.args.shards.now) (sym c.shard-item.is) in
    ap (least_of_all m (λ s. s.pending ++ s.kept ++ s.held) (drop (i + 1) c.args.shards.now)) least
    ∙ (ap (λ xs. least_of_all m (λ s. s.pending ++ s.kept ++ s.held) xs c.loop-shard.least) (sym next) ∙ c.loop-shard.invariant case)
