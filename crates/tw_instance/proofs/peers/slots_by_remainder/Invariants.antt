use Rattle.std.proofs.Common.{map}
use Rattle.tw_instance.specs.Guesses.{AreGuesses}
use Rattle.tw_instance.proofs.peers.slots_by_remainder.Given as goal

abbrev pub invariant-loop-slot : goal.invariant-loop-slot
invariant-loop-slot l = AreGuesses (map (λ h. h.peer) l.hops) l.guesses
