use Rattle.std.proofs.Common.{w64}
use Rattle.std.proofs.lemmas.Nat.Bits.{bit_at_clear_other, bit_at_clear_same, bit_at_set_other, bit_at_set_same}
use Rattle.tw_calendar.proofs.marks.marked_as.Goals as goal

pub returns-then-is_marked-clause-marked : goal.returns-then-is_marked-clause-marked
returns-then-is_marked-clause-marked c = rw c.if-is_marked.true (bit_at_set_same w64 c.args.word c.args.place c.requires)

pub returns-then-is_marked-clause-others : goal.returns-then-is_marked-clause-others
returns-then-is_marked-clause-others c i l apart = bit_at_set_other w64 c.args.word c.args.place c.requires i apart

pub returns-else-is_marked-clause-clear : goal.returns-else-is_marked-clause-clear
returns-else-is_marked-clause-clear c = rw c.if-is_marked.false (bit_at_clear_same w64 c.args.word c.args.place c.requires)

pub returns-else-is_marked-clause-others : goal.returns-else-is_marked-clause-others
returns-else-is_marked-clause-others c i l apart = bit_at_clear_other w64 c.args.word c.args.place c.requires i l apart
