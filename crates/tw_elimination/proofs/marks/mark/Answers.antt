use Rattle.std.proofs.Common.{refl}
use Rattle.tw_elimination.proofs.Marking.{marked_step, reach_step}
use Rattle.tw_elimination.proofs.marks.mark.Goals as goal

pub loop-path-preserved : goal.loop-path-preserved
loop-path-preserved c =
    let r = c.args.router.now in
    let inv = c.loop-path.invariant in
    record {
      reach = reach_step r r refl c.args.paths.now c.loop-path.path-index c.place_given-place.result (record { 0 = 0 }) c.loop-path-test.true
          c.place_given-place.ensures.value c.loop-path.reach c.max-reach.result c.max-reach.ensures inv.reach;
      given = marked_step r r refl c.args.paths.now c.loop-path.path-index c.place_given-place.result (record { 0 = 0 }) c.loop-path-test.true
          c.place_given-place.ensures.value c.loop-path.given c.args.given.now inv.given;
    }
