use Rattle.std.proofs.Common.{rules}
use Rattle.std.proofs.lemmas.Fn.{filter_same}
use Rattle.tw_exchange.specs.AnyBoard.{is_to_another}
use Rattle.tw_exchange.proofs.mail.drop_for.Goals as goal

pub returns : goal.returns
returns g c = filter_same _ (is_to_another g.E.Timed.parts c.args.router) _ (λ x b f t. search rules) _ _ c.retain.ensures.filtered
