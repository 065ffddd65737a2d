use Rattle.std.proofs.lemmas.Bool.{not-true}
use Rattle.tw_run.proofs.Going.{dealt_later}
use Rattle.tw_run.proofs.segments.run_to.Goals as goal

pub run_on-requires-clause-all : goal.run_on-requires-clause-all
run_on-requires-clause-all g c κs within = (c.args.asked, c.args.checkpoints, c.requires.dealt (not-true c.args.asked.rotate c.if-not-asked.true))

pub returns-then-not-asked-clause-dealt : goal.returns-then-not-asked-clause-dealt
returns-then-not-asked-clause-dealt g c =
    dealt_later c.args.asked c.args.checkpoints c.args.sim c.run_on.result (c.requires.dealt (not-true c.args.asked.rotate c.if-not-asked.true)) c.run_on.ensures.goes_on c.run_on.ensures.owners

pub returns-clause-dealt : goal.returns-clause-dealt
returns-clause-dealt g c =
    dealt_later c.args.asked c.args.checkpoints c.deal.new.sim c.run_on-2.result c.in_ok-deal.ensures.dealt c.run_on-2.ensures.goes_on c.run_on-2.ensures.owners
