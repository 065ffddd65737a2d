use Rattle.std.proofs.Common.{min, ap, ◌∙◌}
use Rattle.tw_engine.proofs.Times.{least_first, least_none}
use Rattle.tw_process.specs.Behaviour.{simulation_of}
use Rattle.tw_engine.proofs.logical.least_of.Goals as goal

pub returns-in-Some : goal.returns-in-Some
returns-in-Some g c =
    let m = simulation_of g.M.Event.Timed.parts g.M.Event.Ord.cmp (g.M.ProcessModel.behaviour c.args.model.now) in
    c.min.ensures
    ∙ (ap (λ t. min t c.args.time) c.time.ensures
    ∙ least_first m c.model_is_lawful.ensures.lawful c.args.time c.args.events.now c.in-Some.event c.least.ensures.order c.in-Some.ensures.first)

pub returns-in-None : goal.returns-in-None
returns-in-None g c =
    let m = simulation_of g.M.Event.Timed.parts g.M.Event.Ord.cmp (g.M.ProcessModel.behaviour c.args.model.now) in
    least_none m c.model_is_lawful.ensures.lawful c.args.time c.args.events.now c.in-None.ensures.first
