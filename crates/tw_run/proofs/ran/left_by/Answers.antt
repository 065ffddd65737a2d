use Rattle.tw_model.specs.Summary.{summary_of}
use Rattle.tw_run.proofs.Endings.{outcome_told}
use Rattle.tw_run.proofs.ran.left_by.Goals as goal

pub returns-in-Ok-clause-outcome : goal.returns-in-Ok-clause-outcome
returns-in-Ok-clause-outcome c =
    let told = c.in-Ok.ensures in
    outcome_told c.args.sim.case c.stop.ensures.sim.ruled.is_case c.args.sim.board.stop c.args.log (summary_of c.in-Ok.outcome)
    told.stop told.bound told.events told.routers told.pending told.last_change
