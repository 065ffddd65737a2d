use Rattle.twarp_phold.proofs.perform.report.Goals as goal

pub returns-in-OneThread : goal.returns-in-OneThread
returns-in-OneThread g c = rw c.in-OneThread.is c.seq.ensures

pub returns-in-Workers : goal.returns-in-Workers
returns-in-Workers g c = rw c.in-Workers.is c.run.ensures

pub returns-in-Rounds : goal.returns-in-Rounds
returns-in-Rounds g c = rw c.in-Rounds.is c.run_in_rounds.ensures
