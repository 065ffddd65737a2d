use Rattle.std.proofs.Common.{◌≡◌, ◌+◌, ◌≤◌, length}
use Rattle.tw_lines.specs.Reading.{read_from, reads}
use Rattle.tw_lines.specs.Words.{parts_of}
use Rattle.tw_lines.proofs.line_reader.read_text.Given as goal

abbrev pub invariant-loop-end : goal.invariant-loop-end
invariant-loop-end g l = record {
  line : l.line + length l.rest ≤ 1 + length l.text;
  same : reads g.D.LineReader.reader l.draft l.line (parts_of l.rest) ≡ read_from g.D.LineReader.reader l.initial.draft l.text;
}

abbrev pub decreases-loop-end : goal.decreases-loop-end
decreases-loop-end g l = length l.rest
