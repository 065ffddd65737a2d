use Rattle.tw_calendar.proofs.Early.{none_of_word}
use Rattle.tw_calendar.proofs.ring.any_of_word.Goals as goal

pub returns-then-not-has_any : goal.returns-then-not-has_any
returns-then-not-has_any c =
    none_of_word c.args.router c.args.limit c.args.buckets.now c.args.marks.now c.args.word c.requires.number c.requires.marked c.if-not-has_any.ensures c.requires.word
