use Rattle.tw_run.proofs.segments.run_through.Goals as goal

pub returns-in_ok-run-in-None-clause-dealt : goal.returns-in_ok-run-in-None-clause-dealt
returns-in_ok-run-in-None-clause-dealt g c = (0, c.in_ok-run-in-None.ensures.dealt)
