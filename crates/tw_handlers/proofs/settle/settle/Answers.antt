use Rattle.std.proofs.Common.{◌++◌, List, ap, arith, length, ◌∙◌}
use Rattle.tw_event.specs.declared.event.Event.{Event}
use Rattle.tw_model.specs.Net.{hops_of}
use Rattle.tw_model.specs.Effect.{updates}
use Rattle.tw_handlers.proofs.Pairs.{length-up_pairs}
use Rattle.tw_handlers.proofs.Settled.{reacts_changed}
use Rattle.tw_handlers.proofs.settle.settle.Goals as goal

pub push_updates-sent-requires-clause-room : goal.push_updates-sent-requires-clause-room
push_updates-sent-requires-clause-room c =
    let router = c.args.router.now in
    omega (arith, c.in_ok-reserve.ensures.ok, length-up_pairs (hops_of router.net router.node) router.state.rows, ap length c.rows.ensures.value)

pub returns-clause-reaction : goal.returns-clause-reaction
returns-clause-reaction c =
    let router = c.args.router.now in
    reacts_changed router c.set_rib.new.self c.set_counters.new.self c.args.time c.best-best.result c.rib.result c.counters-counters.result c.push_updates-sent.result
    c.args.sends.now.items c.push_updates-sent.new.sends.items c.best-best.ensures.value c.rib.ensures.value c.if-rib-best.false c.counters-counters.ensures.value
    c.if-sends_too_many.ensures c.push_updates-sent.ensures.next
    (c.push_updates-sent.ensures.sends
    ∙ ap (λ (l : List Event). l ++ updates router.net router.node c.args.time c.best-best.result c.counters-counters.result.sent router.state) c.reserve.ensures.items)
    c.set_rib.ensures c.set_counters.ensures
