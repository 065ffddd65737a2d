use Rattle.tw_exchange.specs.AnyBoard.{is_to}
use Rattle.tw_exchange.proofs.Copies.{IsCopying}
use Rattle.tw_exchange.proofs.mail.copy_out.Given as goal

abbrev pub invariant-loop-message : goal.invariant-loop-message
invariant-loop-message g l = IsCopying (is_to g.E.Timed.parts l.router) l.initial.to.items l.messages l.message-index l.to
