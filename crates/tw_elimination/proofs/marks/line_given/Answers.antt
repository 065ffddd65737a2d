use Rattle.std.proofs.Common.{refl}
use Rattle.tw_router.proofs.Offered.{offered_at, offered_path}
use Rattle.tw_elimination.specs.Marks.{telling}
use Rattle.tw_elimination.proofs.marks.line_given.Goals as goal

pub returns-clause-some : goal.returns-clause-some
returns-clause-some c =
    let found = c.extended_place.ensures in
    offered_at c.args.instance.now c.args.node (telling c.args.path) refl c.if-path-eq0.false found.distinct c.extended_place.result found.some

pub returns-clause-none : goal.returns-clause-none
returns-clause-none c q h =
    c.extended_place.ensures.whole q (offered_path c.args.instance.now c.args.node (telling c.args.path) refl c.if-path-eq0.false q h)
