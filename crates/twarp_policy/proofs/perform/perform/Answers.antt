use Rattle.twarp_policy.proofs.perform.perform.Goals as goal

pub returns-in-Safe-clause-answer : goal.returns-in-Safe-clause-answer
returns-in-Safe-clause-answer g c = rw c.in-Safe.is c.safe_io.ensures.answer

pub returns-in-Stable-clause-answer : goal.returns-in-Stable-clause-answer
returns-in-Stable-clause-answer g c = rw c.in-Stable.is c.stable_io.ensures.answer
