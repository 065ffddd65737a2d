use Rattle.std.proofs.Common.{not, ap, sym, ◌∙◌}
use Rattle.tw_instance.proofs.Facts.{given_exactly}
use Rattle.tw_instance.proofs.rules.is_given.Goals as goal

pub returns-then-is_some : goal.returns-then-is_some
returns-then-is_some c =
    let n = c.number.ensures in
    let exact = given_exactly c.args.instance.now c.args.owner c.args.nodes.now c.number.result n.net n.some n.only in
    ap not c.is_misowned.ensures ∙ (rw (sym c.is_some.ensures ∙ c.if-is_some.true) at exact)

pub returns-else-is_some : goal.returns-else-is_some
returns-else-is_some c =
    let n = c.number.ensures in
    let exact = given_exactly c.args.instance.now c.args.owner c.args.nodes.now c.number.result n.net n.some n.only in
    c.if-is_some.false ∙ (rw (sym c.is_some.ensures ∙ c.if-is_some.false) at exact)
