use Rattle.std.proofs.Common.{true, ◌∙◌}
use Rattle.tw_model.specs.declared.state.Row.{Row}
use Rattle.tw_model.specs.Net.{empty_path}
use Rattle.tw_router.proofs.Opening.{made, same_each}
use Rattle.tw_router.proofs.router.fresh_rows.Goals as goal

pub returns : goal.returns
returns c =
    let fresh : Row = record { heard = empty_path; up = true; session = 0 } in
    made c.vec.result c.vec.ensures.items_if_clones_equal (λ rows is. is (λ y e. e) ∙ same_each c.args.hops.now fresh)
