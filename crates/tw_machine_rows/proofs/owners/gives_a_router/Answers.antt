use Rattle.std.proofs.Common.{◌∙◌, Some}
use Rattle.tw_exchange.specs.Board.{visited}
use Rattle.tw_machine_rows.proofs.owners.gives_a_router.Goals as goal

pub is_given-requires : goal.is_given-requires
is_given-requires c = c.in-Ok.ensures.board ∙ (λ i. visited 0 (c.new.ensures.items i) (Some 5) (c.in-Some.ensures i))
