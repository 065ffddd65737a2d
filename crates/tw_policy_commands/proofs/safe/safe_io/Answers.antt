use Rattle.tw_commands.proofs.Never.{answers_never}
use Rattle.tw_text.specs.Reading.{case_of}
use Rattle.tw_text.proofs.Told.{case_exactly}
use Rattle.tw_elimination.proofs.Listing.{one_list_robust}
use Rattle.tw_elimination.proofs.Wheels.{told_wheel}
use Rattle.tw_policy_commands.proofs.safe.safe_io.Goals as goal

pub returns-clause-answer : goal.returns-clause-answer
returns-clause-answer g c = answers_never c.answer_io.result _ case_of _ _ _ _ _ c.answer_io.ensures.answer

pub returns-clause-wheel : goal.returns-clause-wheel
returns-clause-wheel g c = λ text case read other. told_wheel case ((case_exactly text case).0 read).0 other

pub returns-clause-robust : goal.returns-clause-robust
returns-clause-robust g c = λ text case read all. one_list_robust case.net ((case_exactly text case).0 read).0.net all
