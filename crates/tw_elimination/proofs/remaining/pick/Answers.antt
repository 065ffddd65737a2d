use Rattle.std.proofs.Common.{◌∙◌, ap, get_or, false, ◌&&◌, nat_lt}
use Rattle.tw_event.specs.declared.event.PathNo.{PathNo}
use Rattle.tw_elimination.specs.Marks.{picked}
use Rattle.tw_elimination.proofs.Picking.{pick_more, pick_none, unmarked_high}
use Rattle.tw_elimination.proofs.remaining.pick.Goals as goal
use Rattle.tw_elimination.proofs.remaining.pick.Goals.{then-place-reach+then-given-place+in_ok-push, else-place-reach, else-place-reach-via-then-place-reach+else-given-place, else-place-reach-via-else-place-reach}

pub loop-place-preserved : goal.loop-place-preserved
loop-place-preserved c =
    let order = c.args.order.now in
    let given = c.args.given.now in
    let n = c.args.reach in
    let place = c.loop-place.place in
    let d : PathNo = record { 0 = 0 } in
    elim c.if-place-reach.branch [
      | then-place-reach+then-given-place+in_ok-push w ↦
          pick_more order given n place d c.loop-place-test.true c.requires (picked order given n) c.loop-place.left.items c.if-place-reach.left.items
          w.if-place-reach.true w.if-given-place.true (ap (λ v. v.items) w.left-is ∙ w.in_ok-push.ensures.items) c.loop-place.invariant
      | else-place-reach w ↦ pick_none order given n place d c.loop-place-test.true c.requires (picked order given n) c.loop-place.left.items c.if-place-reach.left.items
          (elim w.else-place-reach.branch [
            | else-place-reach-via-then-place-reach+else-given-place v ↦ ap (λ b. b && nat_lt place n) v.if-given-place.false
            | else-place-reach-via-else-place-reach v ↦ unmarked_high (get_or given place false) place n v.if-place-reach.false
          ])
          (ap (λ v. v.items) w.left-is) c.loop-place.invariant
    ]
