use Rattle.std.proofs.Common.{◌≡◌, drop, length, map}
use Rattle.tw_exchange.specs.AnyBoard.{followed, worker_for}
use Rattle.tw_exchange.specs.Owners.{list_of}
use Rattle.tw_exchange.specs.Rows.{items, soonest_of}
use Rattle.tw_exchange.proofs.mail.deposit.Given as goal

abbrev pub invariant-loop-message : goal.invariant-loop-message
invariant-loop-message g l = let whose = worker_for (list_of l.fn.owners) (length l.fn.mail) in record {
  mail : followed g.E.Timed.parts whose 0 (drop l.message-index l.out) (items l.mail) ≡ followed g.E.Timed.parts whose 0 l.out (items l.initial.mail);
  soonest : l.soonest ≡ map (soonest_of g.E.Timed.parts) (items l.mail);
}
