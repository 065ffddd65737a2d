use Rattle.std.proofs.Common.{◌≡◌, ◌-◌, ◌++◌, ℕ, List, [], ◌∷◌, ap, ap₂, ◌∙◌}
use Rattle.tw_event.specs.declared.event.Event.{Event}
use Rattle.tw_model.specs.declared.net.Hop.{Hop}
use Rattle.tw_model.specs.declared.state.Counters.{Counters}
use Rattle.tw_model.specs.Net.{Net, hops_of}
use Rattle.tw_model.specs.State.{row, slot}
use Rattle.tw_model.specs.Effect.{update_to}
use Rattle.tw_handlers.proofs.Repaired.{same_hop, same_update}
use Rattle.tw_handlers.proofs.undoing.send_restored.Goals as goal

pub returns-clause-ok : goal.returns-clause-ok
returns-clause-ok c =
    let router = c.args.router.now in
    let src = c.node-src.result in
    let k = c.slot_of_peer-slot.result in
    let at : k ≡ slot router.net router.node c.args.peer =
    c.slot_of_peer-slot.ensures.value ∙ ap₂ (λ (x : Net) (y : ℕ). slot x y c.args.peer) c.requires.own c.node-src.ensures.value in
    c.push_reserved.ensures.items
    ∙ (ap (λ (l : List Event). l ++ c.update.result ∷ []) c.reserve.ensures.items
    ∙ ap (λ (u : Event). c.args.sends.now.items ++ u ∷ [])
    (c.update.ensures
    ∙ (ap (λ (h : Hop). update_to src c.args.event.now.time c.rib.result c.saturating_sub-seq.result h c.row.result)
    (same_hop c.hops-hops.result.now (hops_of c.args.instance.now src) k _ c.hops-hops.ensures.value c.slot_of_peer-slot.ensures.within)
    ∙ same_update router c.args.event.now.time c.args.peer c.args.instance.now src k c.row.result (row router.state (slot router.net router.node c.args.peer)) c.rib.result
    c.saturating_sub-seq.result (router.state.counters.sent - 1) c.requires.own c.node-src.ensures.value at c.rib.ensures.value
    (c.saturating_sub-seq.ensures ∙ ap (λ (n : Counters). n.sent - 1) c.counters.ensures.value) (c.row.ensures.value ∙ ap (row router.state) at))))
