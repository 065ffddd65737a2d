use Rattle.std.proofs.Common.{[], ◌∙◌}
use Rattle.tw_parallel.proofs.Ends.{settled_shape}
use Rattle.tw_parallel.proofs.sim.Sim.settled_shape.Goals as goal

pub returns : goal.returns
returns c =
    settled_shape c.args.self.now c.stop.ensures.sim c.requires _ _
    (c.new-builder.ensures ∙ (λ i. record { time = c.stop.ensures.value i; routers = []; sent = [] })) (c.builder.view_is ∙ c.in_ok-gather.ensures)
    _ c.in_ok-pending.ensures.value _ c.finish.ensures
