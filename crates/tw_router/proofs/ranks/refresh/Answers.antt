use Rattle.std.proofs.Common.{◌∙◌, ap, refl}
use Rattle.std.proofs.Common.{take}
use Rattle.tw_router.specs.Ranks.{rank}
use Rattle.tw_router.proofs.Places.{map_step}
use Rattle.tw_router.proofs.ranks.refresh.Goals as goal

pub loop-slot-preserved : goal.loop-slot-preserved
loop-slot-preserved c =
    ap (take _) c.refresh_slot.ensures
    ∙ map_step (rank c.args.instance.now c.args.node c.args.order.now c.args.barred.now) c.args.rows.now c.loop-slot.ranks c.loop-slot.slot _ _
    c.loop-slot-test.true (c.loop-slot.auto.ranks ∙ c.requires.ranks) c.loop-slot.invariant refl
