use Rattle.tw_text.proofs.StepLines.{plain_line}
use Rattle.tw_text.proofs.step_text.read_plain.Goals as goal

pub returns : goal.returns
returns c = rw (plain_line c.args.draft c.args.line.now c.args.ended c.requires, ← c.in_ok-words.ensures, ← c.deref.ensures.value) c.read_words.ensures
