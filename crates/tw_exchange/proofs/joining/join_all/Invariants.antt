use Rattle.tw_exchange.proofs.Behind.{IsJoining}
use Rattle.tw_exchange.proofs.joining.join_all.Given as goal

abbrev pub invariant-loop-worker : goal.invariant-loop-worker
invariant-loop-worker g l = IsJoining g.E.Timed.parts l.worker l.mail l.lists l.initial.mail l.initial.lists l.soonest l.times
