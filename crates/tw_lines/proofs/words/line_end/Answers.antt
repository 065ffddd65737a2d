use Rattle.tw_lines.proofs.FirstBytes.{first_byte}
use Rattle.tw_lines.proofs.words.line_end.Goals as goal

pub returns : goal.returns
returns c = first_byte 10 c.args.text.now c.memchr.result c.memchr.ensures
