use Rattle.std.proofs.Common.{◌≤◌, length, take, ap, ◌∙◌, arith}
use Rattle.tw_shard.proofs.Rings.{take_beyond}
use Rattle.tw_shard.proofs.ahead.Ahead.first.Goals as goal

pub returns-else-count-steps : goal.returns-else-count-steps
returns-else-count-steps c =
    let steps = c.as_slices.result.0.now in
    let beyond : length steps ≤ c.args.count = omega (arith, c.if-count-steps.false) in
    take_beyond c.args.count steps c.as_slices.result.1.now beyond ∙ ap (take c.args.count) (c.as_slices.ensures ∙ c.self.view_is)
