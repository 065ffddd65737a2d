use Rattle.std.proofs.Common.{arith, refl}
use Rattle.std.proofs.lemmas.List.Filters.{length-filter_both}
use Rattle.tw_exchange.specs.Board.{is_to, is_to_another}
use Rattle.tw_table.proofs.hand.push_for.Goals as goal

pub loop-message-init : goal.loop-message-init
loop-message-init c =
    let few = length-filter_both (is_to c.args.router) (is_to_another c.args.router) (λ m. refl) c.args.messages.now in
    record { pushed = refl; fits = omega arith; capacity = refl }
