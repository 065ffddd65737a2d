use Rattle.std.proofs.Common.{◌==◌, ◌+◌, sym, ◌∙◌, arith}
use Rattle.std.proofs.lemmas.List.{length-drop, take_rest}
use Rattle.std.proofs.lemmas.List.Quantifiers.{position-Some}
use Rattle.tw_lines.proofs.Reading.{read_all, read_on, stopped}
use Rattle.tw_lines.proofs.line_reader.read_text.Goals as goal

pub returns-in-Err : goal.returns-in-Err
returns-in-Err g c =
    rw (c.at_line.ensures, ← c.loop-end.invariant.same)
    (stopped g.D.LineReader.reader c.loop-end.draft c.loop-end.line c.loop-end.rest.now c.in-Some.end c.in-Err.fault (sym c.in-Some.ensures) c.in-Err.ensures)

pub loop-end-preserved : goal.loop-end-preserved
loop-end-preserved g c =
    let rest = c.loop-end.rest.now in
    let end = c.in-Some.end in
    let first = sym c.in-Some.ensures in
    let p = position-Some (λ b. b == 10) rest end 0 first in
    let n = length-drop (end + 1) rest in
    rw (take_rest rest (end + 1)) (record {
      line = omega (arith, c.loop-end.invariant.line, n, p.0);
      same = read_on g.D.LineReader.reader c.loop-end.draft c.read_line.new.self c.loop-end.line rest end _ first c.in_default-read_line.ensures c.loop-end.invariant.same;
    })

pub returns : goal.returns
returns g c = rw (sym (c.loop-end.invariant.same), read_all g.D.LineReader.reader c.loop-end.draft c.loop-end.line c.loop-end.rest.now (sym c.line_end.ensures ∙ c.in_default.is)) c.finish.ensures
