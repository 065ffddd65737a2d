use Rattle.tw_commands.proofs.Never.{answers_never}
use Rattle.tw_text.specs.ReplayText.{replay_of}
use Rattle.tw_commands.proofs.replay.replay_io.Goals as goal

pub returns-clause-answer : goal.returns-clause-answer
returns-clause-answer g c = answers_never c.answer_io.result _ replay_of _ _ _ _ _ c.answer_io.ensures.answer
