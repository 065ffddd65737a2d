use Rattle.std.proofs.Common.{◌≡◌, ◌/◌, is_some, true, subst, ◌∙◌, arith}
use Rattle.tw_model.specs.Case.{IsCase}
use Rattle.tw_seq.proofs.Checkpoints.{found_stays, left_within, seen_every}
use Rattle.tw_shape.proofs.Seeing.{seen_early, seen_found}
use Rattle.tw_shape.specs.Verdict.{finding}
use Rattle.tw_parallel.proofs.Rounds.{goes_on_both}
use Rattle.tw_run.proofs.Dealt.{dealt_always}
use Rattle.tw_run.proofs.Watching.{on_the_way_begin, on_the_way_next}
use Rattle.tw_run.proofs.segments.run_watched.Goals as goal
use Rattle.tw_run.proofs.segments.run_watched.Goals.{then-loop-seen-test+else-is_none, else-loop-seen-test}

pub loop-seen-init : goal.loop-seen-init
loop-seen-init g c = (omega arith, on_the_way_begin c.args.every c.args.sim c.in_ok-watch.watch c.requires.opening c.in_ok-watch.ensures, (0, c.requires.dealt))

pub push-seen-requires-clause-later : goal.push-seen-requires-clause-later
push-seen-requires-clause-later g c =
    let way = c.loop-seen.invariant.1 in
    let told = c.in_ok-run.ensures in
    let is : IsCase c.args.sim.case = subst IsCase (told.goes_on.case ∙ way.goes_on.case) told.sim.ruled.is_case in
    seen_early c.args.sim.case is c.args.every c.requires.some c.loop-seen.seen c.loop-seen.watch way.shown

pub push-seen-requires-clause-latest : goal.push-seen-requires-clause-latest
push-seen-requires-clause-latest g c =
    let way = c.loop-seen.invariant.1 in
    let left = left_within c.loop-seen.seen c.args.asked.report.stop c.args.every c.loop-seen-test.true in
    rw (seen_every way.shown) (omega arith)

pub loop-seen-preserved : goal.loop-seen-preserved
loop-seen-preserved g c =
    let run = c.in_ok-run.ensures in
    let told = c.push-seen.ensures in (
      omega (arith, told.within),
      on_the_way_next c.args.every c.loop-seen.seen c.push-seen.result c.args.sim c.loop-seen.run c.in_ok-run.run' c.loop-seen.watch c.push-seen.new.self
          c.in_ok-shape.shape c.loop-seen.invariant.1 run.goes_on run.stop c.in_ok-shape.ensures told.gap told.step,
      (c.loop-seen.seen, run.dealt),
    )

pub returns-clause-found : goal.returns-clause-found
returns-clause-found g c =
    let told = c.in_ok-run-2.ensures in
    let way = c.loop-seen.invariant.1 in
    let case = c.args.sim.case in
    let every = c.args.every in
    let last = c.args.asked.report.stop / every in
    let is : IsCase case = subst IsCase (told.goes_on.case ∙ way.goes_on.case) told.sim.ruled.is_case in
    let so = seen_found case is every c.requires.some c.loop-seen.seen c.loop-seen.watch way.shown in
    c.finding-2.ensures ∙ elim c.loop-seen-test.branch [
      | then-loop-seen-test+else-is_none w ↦
          found_stays case every c.loop-seen.seen last c.loop-seen.watch.found c.loop-seen.invariant.0 so (subst (λ o. is_some o ≡ true) w.finding.ensures w.if-is_none.ensures)
      | else-loop-seen-test w ↦ (
          let all : c.loop-seen.seen ≡ last = omega (arith, c.loop-seen.invariant.0, w.loop-seen-test.false) in
          subst (λ n. c.loop-seen.watch.found ≡ finding case every n) all so)
    ]

pub returns-clause-goes_on : goal.returns-clause-goes_on
returns-clause-goes_on g c = goes_on_both c.args.sim c.loop-seen.run c.in_ok-run-2.run' c.loop-seen.invariant.1.goes_on c.in_ok-run-2.ensures.goes_on

pub returns-clause-dealt : goal.returns-clause-dealt
returns-clause-dealt g c = (c.loop-seen.seen, c.in_ok-run-2.ensures.dealt)

pub run_in_pieces-requires-2-clause-dealt : goal.run_in_pieces-requires-2-clause-dealt
run_in_pieces-requires-2-clause-dealt g c κs within = λ stays.
    dealt_always c.args.asked c.loop-seen.invariant.2.0 c.loop-seen.seen c.loop-seen.run stays c.loop-seen.invariant.2.1

pub run_in_pieces-requires-clause-dealt : goal.run_in_pieces-requires-clause-dealt
run_in_pieces-requires-clause-dealt g c κs within = λ stays.
    dealt_always c.args.asked c.loop-seen.invariant.2.0 c.loop-seen.seen c.loop-seen.run stays c.loop-seen.invariant.2.1
