use Rattle.std.proofs.Common.{◌∙◌}
use Rattle.tw_warp.proofs.Bounds.{in_flight_next}
use Rattle.tw_warp.proofs.least.least_in_flight.Goals as goal

pub loop-message-preserved : goal.loop-message-preserved
loop-message-preserved c = λ case.
    in_flight_next case c.args.messages.now c.loop-message.message-index _ c.loop-message.least c.min-least.result c.loop-message-test.true c.min-least.ensures
    ∙ c.loop-message.invariant case
