use Rattle.std.proofs.Common.{false, ◌∙◌}
use Rattle.tw_router.proofs.Opening.{made, same_each}
use Rattle.tw_router.proofs.router.unbarred.Goals as goal

pub returns : goal.returns
returns c = made c.vec.result c.vec.ensures.items_if_clones_equal (λ bars is. is (λ y e. e) ∙ same_each c.args.paths.now false)
