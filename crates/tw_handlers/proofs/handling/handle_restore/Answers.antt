use Rattle.std.proofs.Common.{◌++◌, List, [], ◌∷◌, ap, ◌∙◌}
use Rattle.tw_event.specs.declared.event.Event.{Event}
use Rattle.tw_model.specs.declared.net.Hop.{Hop}
use Rattle.tw_model.specs.Net.{hops_of}
use Rattle.tw_model.specs.Effect.{update_to}
use Rattle.tw_handlers.proofs.Repaired.{HasRead, reacts_repaired, repaired_row, same_hop}
use Rattle.tw_handlers.proofs.handling.handle_restore.Goals as goal

pub returns-clause-reaction : goal.returns-clause-reaction
returns-clause-reaction c =
    let router = c.args.router.now in
    let read : HasRead router c.args.peer c.args.instance.now c.node-node.result c.slot_of_peer-slot.result c.row-row.result c.rib-rib.result c.counters-counters.result = record {
      own = c.requires.reaction.own;
      node = c.node-node.ensures.value;
      at = c.slot_of_peer-slot.ensures.value;
      row = c.row-row.ensures.value;
      down = c.if-row.false;
      rib = c.rib-rib.ensures.value;
      counters = c.counters-counters.ensures.value;
    } in
    reacts_repaired router c.set_counters.new.self c.set_row.new.self c.args.event.now c.args.peer c.args.instance.now c.node-node.result c.slot_of_peer-slot.result c.row-row.result
    c.rib-rib.result c.counters-counters.result c.update.result c.args.sends.now.items c.push_reserved.new.self.items c.of_effect.result
    read c.requires.body c.requires.neighbour c.node-node.ensures.state c.if-counters-ge-MOST_COUNTED.false
    (c.update.ensures
    ∙ ap (λ (h : Hop). update_to c.node-node.result c.args.event.now.time c.rib-rib.result c.counters-counters.result.sent h (repaired_row c.row-row.result))
    (same_hop c.hops-hops.result.now (hops_of c.args.instance.now c.node-node.result) c.slot_of_peer-slot.result _ c.hops-hops.ensures.value c.slot_of_peer-slot.ensures.within))
    (c.push_reserved.ensures.items ∙ ap (λ (l : List Event). l ++ c.update.result ∷ []) c.reserve.ensures.items) c.set_counters.ensures c.set_row.ensures
