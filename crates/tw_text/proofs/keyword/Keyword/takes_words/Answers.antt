use Rattle.std.proofs.Common.{sym}
use Rattle.tw_text.proofs.Shapes.{takes_words-now}
use Rattle.tw_text.proofs.keyword.Keyword.takes_words.Goals as goal

pub returns-then-takes : goal.returns-then-takes
returns-then-takes c = sym (takes_words-now c.args.self c.args.words.now _ _ c.takes.ensures c.if-takes.true c.has_empty.ensures)
