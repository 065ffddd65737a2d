use Rattle.tw_report.proofs.report.put_verdict.Goals as goal

pub returns-in-Quiet : goal.returns-in-Quiet
returns-in-Quiet g c = rw c.in-Quiet.is c.put_line.ensures

pub returns-in-Undecided : goal.returns-in-Undecided
returns-in-Undecided g c = rw c.in-Undecided.is c.put_line-in-Undecided.ensures

pub returns-in-Oscillates : goal.returns-in-Oscillates
returns-in-Oscillates g c = rw c.in-Oscillates.is c.put_line-in-Oscillates.ensures
