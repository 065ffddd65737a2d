use Rattle.std.proofs.Common.{rules}
use Rattle.tw_text.proofs.draft.take_end.Goals as goal

pub returns-in-Err : goal.returns-in-Err
returns-in-Err c = let e = (c.set_version.ensures.rule c.in-Err.rule).0 c.in-Err.is in search (rules, e)
