use Rattle.std.proofs.Common.{◌≡◌, ◌≤◌, ◌/◌, ap, sym, subst, ◌∙◌, arith, is_some, true, Err}
use Rattle.std.proofs.lemmas.Result.{err_from_is_err_and}
use Rattle.tw_handlers.specs.Calls.{counter_full}
use Rattle.tw_model.specs.Case.{IsCase}
use Rattle.tw_model.specs.declared.memory.OrMemory.TheVariants.{Fault}
use Rattle.tw_shape.specs.Verdict.{finding}
use Rattle.tw_shape.proofs.Seeing.{seen_early, seen_found}
use Rattle.tw_seq.proofs.Checkpoints.{found_stays, left_within, on_the_way_begin, on_the_way_next, seen_every, stuck_later}
use Rattle.tw_seq.proofs.watched.run_watched.Goals as goal
use Rattle.tw_seq.proofs.watched.run_watched.Goals.{then-loop-seen-test+else-is_none, else-loop-seen-test}

pub loop-seen-init : goal.loop-seen-init
loop-seen-init g c = (omega arith, on_the_way_begin c.args.every (g.R.Running.run c.args.run.now) c.in_ok-watch.watch c.requires.opening c.in_ok-watch.ensures)

pub returns-in_err-run_to-clause-full : goal.returns-in_err-run_to-clause-full
returns-in_err-run_to-clause-full g c =
    λ is.
    let p = err_from_is_err_and c.from_residual-in_err-run_to.result c.from_residual-in_err-run_to.ensures.1 in
    let same : c.in_err-run_to.field-0.0 ≡ Fault counter_full = (let h = sym (p.1 ∙ ap Err p.2) ∙ is in cc) in
    let told = c.in_err-run_to.ensures in
    let way = c.loop-seen.invariant.1 in
    let left = left_within c.loop-seen.seen c.args.stop c.args.every c.loop-seen-test.true in
    let early : (g.R.Running.run c.run_to.new.self).stop ≤ c.args.stop = (let s = told.stop in let k = way.stop in omega arith) in
    stuck_later (g.R.Running.run c.args.run.now).case c.args.stop (g.R.Running.run c.run_to.new.self) (told.case ∙ way.case) early told.begun (told.full (ap Err same))

pub push-seen-requires-clause-later : goal.push-seen-requires-clause-later
push-seen-requires-clause-later g c =
    let way = c.loop-seen.invariant.1 in
    let told = c.in_ok-run_to.ensures in
    let is : IsCase (g.R.Running.run c.args.run.now).case = subst IsCase (told.case ∙ way.case) told.begun.case in
    seen_early (g.R.Running.run c.args.run.now).case is c.args.every c.requires.some c.loop-seen.seen c.loop-seen.watch way.shown

pub push-seen-requires-clause-latest : goal.push-seen-requires-clause-latest
push-seen-requires-clause-latest g c =
    let way = c.loop-seen.invariant.1 in
    let left = left_within c.loop-seen.seen c.args.stop c.args.every c.loop-seen-test.true in
    rw (seen_every way.shown) (omega arith)

pub loop-seen-preserved : goal.loop-seen-preserved
loop-seen-preserved g c =
    let told = c.push-seen.ensures in (
      omega (arith, told.within),
      on_the_way_next c.args.every c.loop-seen.seen c.push-seen.result (g.R.Running.run c.args.run.now) (g.R.Running.run c.loop-seen.run) (g.R.Running.run c.run_to.new.self) c.loop-seen.watch c.push-seen.new.self
          c.in_ok-shape.shape c.loop-seen.invariant.1 c.in_ok-run_to.ensures.ok c.in_ok-shape.ensures told.gap told.step,
    )

pub returns-clause-found : goal.returns-clause-found
returns-clause-found g c =
    let told = c.in_ok-run_to-2.ensures in
    let way = c.loop-seen.invariant.1 in
    let case = (g.R.Running.run c.args.run.now).case in
    let every = c.args.every in
    let last = c.args.stop / every in
    let is : IsCase case = subst IsCase (told.case ∙ way.case) told.begun.case in
    let so = seen_found case is every c.requires.some c.loop-seen.seen c.loop-seen.watch way.shown in
    elim c.loop-seen-test.branch [
      | then-loop-seen-test+else-is_none w ↦
          found_stays case every c.loop-seen.seen last c.loop-seen.watch.found c.loop-seen.invariant.0 so (subst (λ o. is_some o ≡ true) w.finding.ensures w.if-is_none.ensures)
      | else-loop-seen-test w ↦ (
          let all : c.loop-seen.seen ≡ last = omega (arith, c.loop-seen.invariant.0, w.loop-seen-test.false) in
          subst (λ n. c.loop-seen.watch.found ≡ finding case every n) all so)
    ]
