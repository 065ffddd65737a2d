use Rattle.std.proofs.Common.{◌≡◌, ◌∙◌, ap₂, refl, sym, subst, arith, get_or, ◌<◌, length}
use Rattle.std.specs.List.{All}
use Rattle.tw_instance.specs.Tables.{row}
use Rattle.tw_model.specs.declared.net.Hop.{Hop}
use Rattle.tw_model.specs.Net.{IsPath, hops_of}
use Rattle.tw_elimination.proofs.Folds.{fold_over}
use Rattle.tw_elimination.proofs.Marking.{all_seen, narrow, narrow_down, narrow_up, row_at, widen, widen_down, widen_up}
use Rattle.tw_elimination.specs.Marks.{ends}
use Rattle.tw_elimination.proofs.marks.mark_all.Goals as goal
use Rattle.tw_elimination.proofs.marks.mark_all.Goals.{then-is_up, else-is_up}

pub mark-reach-requires-clause-paths : goal.mark-reach-requires-clause-paths
mark-reach-requires-clause-paths c =
    let r = c.args.router.now in
    let w = (get_or c.hops-hop-items.result.now c.loop-slot.slot (record { peer = 0; delay = 0 })).peer in
    let good = (c.hops-hop-items.ensures.good c.loop-slot.slot (record { peer = 0; delay = 0 }) c.loop-slot-test.true).peer in
    let there : w < length c.args.left.now = omega (arith, good, c.requires.long) in
    let are : row c.args.left.now w ≡ c.deref.result.now = row_at c.args.left.now w c.index-left-hop.result there c.index-left-hop.is ∙ sym c.deref.ensures.value in
    subst (All (IsPath r.net)) are (c.requires.paths w)

pub loop-slot-preserved : goal.loop-slot-preserved
loop-slot-preserved c =
    let r = c.args.router.now in
    let inv = c.loop-slot.invariant in
    let left = row c.args.left.now in
    let hops = c.hops-hop-items.result.now in
    let slot = c.loop-slot.slot in
    let d : Hop = record { peer = 0; delay = 0 } in
    let are : hops ≡ hops_of r.net r.node = c.hops-hop-items.ensures.value ∙ ap₂ hops_of c.requires.own c.node.ensures.value in
    let long = c.node.ensures.state.hops in
    let good = (c.hops-hop-items.ensures.good slot d c.loop-slot-test.true).peer in
    let there : (get_or hops slot d).peer < length c.args.left.now = omega (arith, good, c.requires.long) in
    elim c.if-is_up.branch [
      | then-is_up w ↦ (
          let up = sym c.is_up.ensures ∙ w.if-is_up.true in
          let its = row_at c.args.left.now (get_or hops slot d).peer w.index-left-hop.result there w.index-left-hop.is ∙ sym w.deref.ensures.value in
          record {
            reach = narrow_up r r refl left hops slot d are long c.loop-slot-test.true up w.deref.result.now its
                c.loop-slot.least c.if-is_up.least w.mark-reach.result w.mark-reach.ensures.reach (w.least-is ∙ w.min-least.ensures) inv.reach;
            given = widen_up r r refl left hops slot d are long c.loop-slot-test.true up w.deref.result.now its
                c.loop-slot.given c.if-is_up.given c.args.given.now (w.given-is ∙ w.mark-reach.ensures.given) inv.given;
          })
      | else-is_up w ↦ (
          let down = sym c.is_up.ensures ∙ w.if-is_up.false in
          record {
            reach = narrow_down r r refl left hops slot d are long c.loop-slot-test.true down c.loop-slot.least c.if-is_up.least w.least-is inv.reach;
            given = widen_down r r refl left hops slot d are long c.loop-slot-test.true down c.loop-slot.given c.if-is_up.given c.args.given.now
                w.given-is inv.given;
          })
    ]

pub returns-clause-reach : goal.returns-clause-reach
returns-clause-reach c =
    let r = c.args.router.now in
    let hops = c.hops-hop-items.result.now in
    let are : hops ≡ hops_of r.net r.node = c.hops-hop-items.ensures.value ∙ ap₂ hops_of c.requires.own c.node.ensures.value in
    let seen = all_seen r hops c.loop-slot.slot are c.node.ensures.state.hops c.loop-slot-test.false c.loop-slot.auto.slot-end in
    sym (fold_over (narrow r (row c.args.left.now)) c.loop-slot.least (ends r) c.loop-slot.slot seen) ∙ c.loop-slot.invariant.reach

pub returns-clause-given : goal.returns-clause-given
returns-clause-given c =
    let r = c.args.router.now in
    let hops = c.hops-hop-items.result.now in
    let are : hops ≡ hops_of r.net r.node = c.hops-hop-items.ensures.value ∙ ap₂ hops_of c.requires.own c.node.ensures.value in
    let seen = all_seen r hops c.loop-slot.slot are c.node.ensures.state.hops c.loop-slot-test.false c.loop-slot.auto.slot-end in
    sym (fold_over (widen r (row c.args.left.now)) c.loop-slot.given (ends r) c.loop-slot.slot seen) ∙ c.loop-slot.invariant.given
