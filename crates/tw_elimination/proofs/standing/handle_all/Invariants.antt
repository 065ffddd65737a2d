use Rattle.std.proofs.Common.{◌≡◌, take}
use Rattle.tw_seq.specs.Run.{routers_after}
use Rattle.tw_elimination.proofs.standing.handle_all.Given as goal

abbrev pub invariant-loop-event : goal.invariant-loop-event
invariant-loop-event l = l.routers ≡ routers_after l.case (take l.event-index l.events)
