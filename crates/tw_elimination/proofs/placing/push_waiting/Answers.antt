use Rattle.std.proofs.Common.{◌≡◌, ◌+◌, ◌<◌, ◌≤◌, ◌∷◌, ◌++◌, ◌∙◌, true, [], ap, arith, get_or, length, subst, sym, take}
use Rattle.std.specs.List.{All}
use Rattle.std.proofs.lemmas.Bool.{both_ways}
use Rattle.std.proofs.lemmas.List.{take_more}
use Rattle.tw_model.specs.declared.net.Hop.{Hop}
use Rattle.tw_model.specs.Net.{hops_of}
use Rattle.tw_sim.proofs.Members.{all_from_in, in_from_all}
use Rattle.tw_elimination.specs.Placing.{GoesOnNext, has_router}
use Rattle.tw_elimination.proofs.Ring.{all_more}
use Rattle.tw_elimination.proofs.Worklist.{one_longer, take_whole, work_has, work_kept}
use Rattle.tw_elimination.proofs.placing.push_waiting.Goals as goal
use Rattle.tw_elimination.proofs.placing.push_waiting.Goals.{then-goes_on_next+in_ok-push, else-goes_on_next}

pub loop-hop-preserved : goal.loop-hop-preserved
loop-hop-preserved c =
    let net = c.args.instance.now in
    let inv = c.loop-hop.invariant in
    let i = c.loop-hop.hop-index in
    let d : Hop = record { peer = 0; delay = 0 } in
    let hops = hops_of net c.args.router in
    let given = c.hops-hop-items.result.now in
    let are : given ≡ hops = c.hops-hop-items.ensures.value in
    let x = (get_or given i d).peer in
    let within : i < length hops = subst (λ hs. i < length hs) are c.loop-hop-test.true in
    let same : get_or hops i d ≡ get_or given i d = ap (λ hs. get_or hs i d) (sym are) in
    let good = (c.hops-hop-items.ensures.good i d c.loop-hop-test.true).peer in
    let after = c.if-goes_on_next.work.items in
    let waits : Hop → Type 0 = λ h. GoesOnNext net c.args.placed.now c.args.path h.peer → has_router after h.peer ≡ true in
    elim c.if-goes_on_next.branch [
      | then-goes_on_next+in_ok-push w ↦ (
          let pushed : after ≡ c.loop-hop.work.items ++ x ∷ [] = ap (λ v. v.items) w.work-is ∙ w.in_ok-push.ensures.items in
          let longer = one_longer c.loop-hop.work.items after x pushed in
          let few = inv.few in
          record {
            kept = λ v h. work_kept c.loop-hop.work.items after x pushed v (inv.kept v h);
            waiting = all_more waits (take i hops) (take (i + 1) hops) (get_or hops i d) (take_more hops i d within)
                (all_from_in waits (take i hops) (λ h j on. work_kept c.loop-hop.work.items after x pushed h.peer
                (in_from_all (λ h. GoesOnNext net c.args.placed.now c.args.path h.peer → has_router c.loop-hop.work.items h.peer ≡ true) (take i hops) inv.waiting h j on)))
                (λ on. subst (λ (h : Hop). has_router after h.peer ≡ true) (sym same) (work_has c.loop-hop.work.items after x pushed));
            few = omega arith;
            homes = λ all. all_more (λ v. v < net.nodes) c.loop-hop.work.items after x pushed (inv.homes all) good;
          })
      | else-goes_on_next w ↦ (
          let is : after ≡ c.loop-hop.work.items = ap (λ v. v.items) w.work-is in
          let few = inv.few in
          let long = ap length is in
          record {
            kept = λ v h. subst (λ ws. has_router ws v ≡ true) (sym is) (inv.kept v h);
            waiting = subst (λ ws. All (λ h. GoesOnNext net c.args.placed.now c.args.path h.peer → has_router ws h.peer ≡ true) (take (i + 1) hops)) (sym is)
                (all_more (λ h. GoesOnNext net c.args.placed.now c.args.path h.peer → has_router c.loop-hop.work.items h.peer ≡ true) (take i hops) (take (i + 1) hops)
                (get_or hops i d) (take_more hops i d within) inv.waiting
                (λ on. absurd (both_ways c.goes_on_next.result w.if-goes_on_next.false
                (c.goes_on_next.ensures (subst (λ (h : Hop). GoesOnNext net c.args.placed.now c.args.path h.peer) same on)))));
            few = omega arith;
            homes = λ all. subst (All (λ v. v < net.nodes)) (sym is) (inv.homes all);
          })
    ]

pub returns-clause-waiting : goal.returns-clause-waiting
returns-clause-waiting c =
    let net = c.args.instance.now in
    let hops = hops_of net c.args.router in
    let over : length hops ≤ c.loop-hop.hop-index = subst (λ hs. length hs ≤ c.loop-hop.hop-index) c.hops-hop-items.ensures.value c.loop-hop-test.false in
    subst (All (λ h. GoesOnNext net c.args.placed.now c.args.path h.peer → has_router c.loop-hop.work.items h.peer ≡ true)) (take_whole c.loop-hop.hop-index hops over) c.loop-hop.invariant.waiting
