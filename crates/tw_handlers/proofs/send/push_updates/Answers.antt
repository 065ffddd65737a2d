use Rattle.std.proofs.Common.{◌≡◌, ◌+◌, ◌++◌, ◌<◌, List, [], ◌∷◌, append_assoc, drop, length, ap, ap₂, sym, ◌∙◌, subst, arith}
use Rattle.std.proofs.lemmas.List.{length_push}
use Rattle.tw_event.specs.declared.event.Event.{Event}
use Rattle.smallvec.specs.SmallVec.{HasRoomFor}
use Rattle.tw_model.specs.declared.net.Hop.{Hop}
use Rattle.tw_model.specs.declared.state.Row.{Row}
use Rattle.tw_model.specs.Net.{hops_of}
use Rattle.tw_model.specs.State.{no_hop}
use Rattle.tw_handlers.proofs.Pairs.{up_pairs, updates_to}
use Rattle.tw_handlers.proofs.Pairs.{up_pairs-keep, up_pairs-skip}
use Rattle.tw_handlers.proofs.send.push_updates.Goals as goal

pub loop-slot-preserved-then-not-row : goal.loop-slot-preserved-then-not-row
loop-slot-preserved-then-not-row c =
    let src = c.node.result in
    let in_rows : c.loop-slot.slot < length c.rows-rows.result.now = omega arith in
    let long : length c.hops-hops.result.now ≡ length c.rows-rows.result.now =
    ap length c.hops-hops.ensures.value
    ∙ (ap₂ (λ net v. length (hops_of net v)) c.requires.own c.node.ensures.value
    ∙ (sym c.rows-rows.ensures.state.hops ∙ sym (ap length c.rows-rows.ensures.value))) in
    let in_hops : c.loop-slot.slot < length c.hops-hops.result.now = omega arith in
    let P : List (Hop × Row) → Type 0 = λ pairs.
    (c.loop-slot.sends.items ++ updates_to src c.args.time c.args.path c.loop-slot.seq pairs
    ≡ c.args.sends.now.items ++ updates_to src c.args.time c.args.path c.args.first (up_pairs c.hops-hops.result.now c.rows-rows.result.now))
    × (c.loop-slot.seq + length pairs ≡ c.args.first + length (up_pairs c.hops-hops.result.now c.rows-rows.result.now))
    × HasRoomFor c.loop-slot.sends (length pairs) in
    subst P (up_pairs-skip c.hops-hops.result.now c.rows-rows.result.now c.loop-slot.slot no_hop _ in_hops in_rows c.if-not-row.true) c.loop-slot.invariant

pub loop-slot-preserved : goal.loop-slot-preserved
loop-slot-preserved c =
    let src = c.node.result in
    let in_rows : c.loop-slot.slot < length c.rows-rows.result.now = omega arith in
    let long : length c.hops-hops.result.now ≡ length c.rows-rows.result.now =
    ap length c.hops-hops.ensures.value
    ∙ (ap₂ (λ net v. length (hops_of net v)) c.requires.own c.node.ensures.value
    ∙ (sym c.rows-rows.ensures.state.hops ∙ sym (ap length c.rows-rows.ensures.value))) in
    let in_hops : c.loop-slot.slot < length c.hops-hops.result.now = omega arith in
    let P : List (Hop × Row) → Type 0 = λ pairs.
    (c.loop-slot.sends.items ++ updates_to src c.args.time c.args.path c.loop-slot.seq pairs
    ≡ c.args.sends.now.items ++ updates_to src c.args.time c.args.path c.args.first (up_pairs c.hops-hops.result.now c.rows-rows.result.now))
    × (c.loop-slot.seq + length pairs ≡ c.args.first + length (up_pairs c.hops-hops.result.now c.rows-rows.result.now))
    × HasRoomFor c.loop-slot.sends (length pairs) in
    let rest = up_pairs (drop (c.loop-slot.slot + 1) c.hops-hops.result.now) (drop (c.loop-slot.slot + 1) c.rows-rows.result.now) in
    let k = subst P (up_pairs-keep c.hops-hops.result.now c.rows-rows.result.now c.loop-slot.slot (record { peer = 0; delay = 0 }) _ in_hops in_rows
    c.if-not-row.false) c.loop-slot.invariant in
    let grown = ap length c.push_reserved.ensures.items in (
      ap (λ (l : List Event). l ++ updates_to src c.args.time c.args.path (c.loop-slot.seq + 1) rest)
          (c.push_reserved.ensures.items ∙ ap (λ (u : Event). c.loop-slot.sends.items ++ u ∷ []) c.update.ensures)
          ∙ (append_assoc c.loop-slot.sends.items _ _ ∙ k.0),
      (let n = k.1 in omega arith),
      (let room = k.2 in omega (arith, room, grown, c.push_reserved.ensures.capacity, length_push c.loop-slot.sends.items c.update.result)),
    )
