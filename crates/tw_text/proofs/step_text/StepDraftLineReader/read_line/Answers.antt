use Rattle.std.proofs.Common.{sym, ◌∙◌}
use Rattle.tw_text.proofs.StepLines.{not_plain}
use Rattle.tw_text.proofs.step_text.StepDraftLineReader.read_line.Goals as goal

pub returns-then-not-is_plain_line : goal.returns-then-not-is_plain_line
returns-then-not-is_plain_line c = not_plain c.args.self.now c.args.line.now c.args.ended (sym c.is_plain_line.ensures ∙ c.if-not-is_plain_line.true)
