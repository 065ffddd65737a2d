use Rattle.std.proofs.Common.{sym, ◌∙◌}
use Rattle.tw_text.proofs.Faults.{plain_step}
use Rattle.tw_text.proofs.line.read_line.Goals as goal

pub returns-then-not-is_plain_line : goal.returns-then-not-is_plain_line
returns-then-not-is_plain_line c = plain_step c.args.draft.now c.args.line.now c.args.ended (sym c.is_plain_line.ensures ∙ c.if-not-is_plain_line.true)
