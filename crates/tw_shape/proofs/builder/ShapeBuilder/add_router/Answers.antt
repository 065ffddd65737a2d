use Rattle.std.proofs.Common.{rules}
use Rattle.tw_shape.proofs.Packing.{covers-push, routers-push}
use Rattle.tw_shape.proofs.builder.ShapeBuilder.add_router.Goals as goal

pub invariant_of-self-2 : goal.invariant_of-self-2
invariant_of-self-2 c = search (rules, covers-push)

pub returns-clause-ok : goal.returns-clause-ok
returns-clause-ok c = search (rules, routers-push)
