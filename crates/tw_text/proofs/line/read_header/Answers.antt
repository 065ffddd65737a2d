use Rattle.std.proofs.Common.{refl, sym, ◌∙◌}
use Rattle.tw_text.proofs.Faults.{start_step}
use Rattle.tw_text.proofs.line.read_header.Goals as goal

pub returns-in-Some : goal.returns-in-Some
returns-in-Some c = sym (start_step c.args.line.now _ c.args.ended c.requires c.version_of.ensures ∙ rw (c.in-Some.is, c.if-ended.true) refl)

pub returns-in-Some-2 : goal.returns-in-Some-2
returns-in-Some-2 c = sym (start_step c.args.line.now _ c.args.ended c.requires c.version_of.ensures ∙ rw (c.in-Some.is, c.if-ended.false) refl)

pub returns-in-None : goal.returns-in-None
returns-in-None c = sym (start_step c.args.line.now _ c.args.ended c.requires c.version_of.ensures ∙ rw c.in-None.is refl)
