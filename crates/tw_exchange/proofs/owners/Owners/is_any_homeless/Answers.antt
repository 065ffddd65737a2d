use Rattle.std.proofs.Common.{sym, ap, ◌∙◌}
use Rattle.tw_exchange.specs.AnyBoard.{any_homeless}
use Rattle.tw_exchange.specs.Owners.{list_of}
use Rattle.tw_exchange.proofs.Homes.{in_turn}
use Rattle.tw_exchange.proofs.owners.Owners.is_any_homeless.Goals as goal

pub returns-in-InTurn : goal.returns-in-InTurn
returns-in-InTurn g c =
    sym (ap (λ owners. any_homeless g.E.Timed.parts (list_of owners) c.args.workers c.args.out.now) c.in-InTurn.is ∙ in_turn g.E.Timed.parts c.args.workers c.args.out.now c.requires)
