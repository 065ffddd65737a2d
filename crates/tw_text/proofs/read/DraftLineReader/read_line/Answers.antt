use Rattle.tw_text.proofs.PathLines.{path_step}
use Rattle.tw_text.proofs.read.DraftLineReader.read_line.Goals as goal

pub returns-in-Paths : goal.returns-in-Paths
returns-in-Paths c =
    let said = rw c.in-Some.is at c.in_ok-path.ensures in
    rw (c.in-Paths.is, c.if-ended.true, path_step c.in-Paths.field-0 c.in-Paths.instance c.args.line.now c.in-Some.path said) (c.add_path.ensures c.in-Paths.field-0)
