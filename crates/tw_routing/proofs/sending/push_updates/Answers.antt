use Rattle.std.proofs.Common.{◌≡◌, ◌≤◌, ◌+◌, ◌++◌, ◌<◌, List, length, ap, ap₂, sym, ◌∙◌, subst, arith, vec_capacity, vec_len}
use Rattle.tw_model.specs.declared.net.Hop.{Hop}
use Rattle.tw_model.specs.declared.state.Row.{Row}
use Rattle.tw_model.specs.Net.{hops_of}
use Rattle.tw_model.specs.State.{no_hop}
use Rattle.tw_handlers.proofs.Pairs.{up_pairs, up_pairs-skip, updates_to}
use Rattle.tw_routing.proofs.sending.push_updates.Goals as goal

pub loop-slot-preserved-then-not-row : goal.loop-slot-preserved-then-not-row
loop-slot-preserved-then-not-row c =
    let src = c.node.result in
    let in_rows : c.loop-slot.slot < length c.rows-rows.result.now = omega arith in
    let long : length c.hops-hops.result.now ≡ length c.rows-rows.result.now =
    ap length c.hops-hops.ensures.value
    ∙ (ap₂ (λ net v. length (hops_of net v)) c.requires.own c.node.ensures.value
    ∙ (sym c.rows-rows.ensures.state.hops ∙ sym (ap length c.rows-rows.ensures.value))) in
    let in_hops : c.loop-slot.slot < length c.hops-hops.result.now = omega arith in
    let P : List (Hop × Row) → Type 0 = λ pairs.
    (c.loop-slot.sends.items ++ updates_to src c.args.time c.args.path c.loop-slot.seq pairs
    ≡ c.args.sends.now.items ++ updates_to src c.args.time c.args.path c.args.first (up_pairs c.hops-hops.result.now c.rows-rows.result.now))
    × (c.loop-slot.seq + length pairs ≡ c.args.first + length (up_pairs c.hops-hops.result.now c.rows-rows.result.now))
    × (vec_len c.loop-slot.sends + length pairs ≤ vec_capacity c.loop-slot.sends)
    × (vec_capacity c.args.sends.now ≤ vec_capacity c.loop-slot.sends) in
    subst P (up_pairs-skip c.hops-hops.result.now c.rows-rows.result.now c.loop-slot.slot no_hop _ in_hops in_rows c.if-not-row.true) c.loop-slot.invariant
