use Rattle.tw_workers.proofs.Visits.{same_seat}
use Rattle.tw_machine_rows.proofs.table.visit.Goals as goal

pub returns-in-Ok-visit-clause-same : goal.returns-in-Ok-visit-clause-same
returns-in-Ok-visit-clause-same c = same_seat c.args.held.now c.visit.new.self c.visit-2.new.self c.visit.ensures.same c.visit-2.ensures.same
