use Rattle.tw_commands.proofs.Never.{answers_never}
use Rattle.tw_text.specs.Reading.{case_of}
use Rattle.tw_policy_commands.proofs.stable.stable_io.Goals as goal

pub returns-clause-answer : goal.returns-clause-answer
returns-clause-answer g c = answers_never c.answer_io.result _ case_of _ _ _ _ _ c.answer_io.ensures.answer
