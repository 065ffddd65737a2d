use Rattle.std.proofs.Common.{ap, ◌∙◌}
use Rattle.tw_seq.proofs.Homes.{homes_at}
use Rattle.tw_model.proofs.Lawful.{lawful}
use Rattle.tw_seq.proofs.turn.opening_queue.Goals as goal

pub insert_each-requires-clause-homes : goal.insert_each-requires-clause-homes
insert_each-requires-clause-homes c =
    let case = c.args.case.now in
    let is_case = c.openings-events.ensures.case in
    homes_at case c.reserve.new.self.routers c.openings-events.result.now (lawful case is_case) is_case c.openings-events.ensures.value
    (c.reserve.ensures.routers ∙ (c.in_ok-pending.ensures.routers ∙ (c.nodes.ensures.value ∙ ap (λ net. net.nodes) c.instance.ensures.value)))
