use Rattle.tw_text.proofs.Faults.{later_step}
use Rattle.tw_text.proofs.line.read_later.Goals as goal

pub returns : goal.returns
returns c =
    rw (later_step c.args.draft.now c.args.line.now c.args.ended c.requires.later c.requires.plain, ← c.in_ok-words.ensures, ← c.deref.ensures.value) c.read_words.ensures
