use Rattle.std.proofs.Common.{inl, inr}
use Rattle.twarp.proofs.perform.perform.Goals as goal

pub returns-in-Check-clause-answer : goal.returns-in-Check-clause-answer
returns-in-Check-clause-answer g c = inl (rw c.in-Check.is c.check_io.ensures.answer)

pub returns-in-Seq-clause-answer : goal.returns-in-Seq-clause-answer
returns-in-Seq-clause-answer g c = inl (rw c.in-Seq.is c.seq_io.ensures.answer)

pub returns-in-Trail-clause-answer : goal.returns-in-Trail-clause-answer
returns-in-Trail-clause-answer g c = inl (rw c.in-Trail.is c.trail_io.ensures.answer)

pub returns-in-Replay-clause-answer : goal.returns-in-Replay-clause-answer
returns-in-Replay-clause-answer g c = inl (rw c.in-Replay.is c.replay_io.ensures.answer)

pub returns-in-Run-clause-answer : goal.returns-in-Run-clause-answer
returns-in-Run-clause-answer g c = elim c.run_io.ensures.answer [
  | inl told ↦ inl (rw c.in-Run.is told)
  | inr lacks ↦ inr (rw c.in-Run.is tt, lacks)
]

pub returns-in-Upgrade-clause-answer : goal.returns-in-Upgrade-clause-answer
returns-in-Upgrade-clause-answer g c = inl (rw c.in-Upgrade.is c.upgrade_io.ensures.answer)
