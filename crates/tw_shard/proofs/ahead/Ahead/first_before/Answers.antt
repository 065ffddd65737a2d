use Rattle.std.proofs.Common.{◌≤◌, length, nat_lt, ap, ◌∙◌, arith}
use Rattle.std.specs.List.{prefix_len}
use Rattle.tw_shard.specs.declared.timeline.HandledEvent.{HandledEvent}
use Rattle.tw_shard.proofs.Rings.{prefix_both, prefix_front}
use Rattle.tw_shard.proofs.ahead.Ahead.first_before.Goals as goal

pub returns-then-count-steps-clause-value : goal.returns-then-count-steps-clause-value
returns-then-count-steps-clause-value c =
    let p = λ (d : HandledEvent). nat_lt d.event.time c.args.time in
    prefix_front p c.as_slices.result.0.now c.as_slices.result.1.now c.oldest_before-count.result c.oldest_before-count.ensures.value c.if-count-steps.true
    ∙ ap (prefix_len p) (c.as_slices.ensures ∙ c.self.view_is)

pub returns-else-count-steps-clause-value : goal.returns-else-count-steps-clause-value
returns-else-count-steps-clause-value c =
    let p = λ (d : HandledEvent). nat_lt d.event.time c.args.time in
    let steps = c.as_slices.result.0.now in
    let all : length steps ≤ c.oldest_before-count.result = omega (arith, c.if-count-steps.false) in
    prefix_both p steps c.as_slices.result.1.now c.oldest_before-count.result c.oldest_before.result c.oldest_before-count.ensures.value all c.oldest_before.ensures.value
    ∙ ap (prefix_len p) (c.as_slices.ensures ∙ c.self.view_is)
