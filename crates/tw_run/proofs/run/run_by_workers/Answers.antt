use Rattle.tw_run.proofs.Going.{by_later, run_by_left}
use Rattle.tw_run.specs.Ran.{IsBy}
use Rattle.tw_run.proofs.run.run_by_workers.Goals as goal

pub returns-clause-by : goal.returns-clause-by
returns-clause-by g c =
    let begun = c.in_ok-sim.ensures in
    let told = c.in_ok-sim-2.ensures in
    let case = c.args.case.now in
    let asked = c.args.asked in
    let opened : IsBy case asked c.args.workers c.in_ok-sim.sim = record { of_case = begun.case; workers = begun.workers; cancels = begun.cancels } in
    run_by_left case asked c.args.workers c.in_ok-sim-2.sim c.in_ok-left_by.field-0.by c.in_ok-left_by.ensures.by (record {
      by = by_later case asked c.args.workers c.in_ok-sim.sim c.in_ok-sim-2.sim opened told.goes_on;
      settled = told.settled;
      stop = told.stop;
      dealt = told.dealt;
      retains = λ log. told.goes_on.retains (begun.retains log);
    })
