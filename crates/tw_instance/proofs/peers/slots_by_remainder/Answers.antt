use Rattle.tw_instance.proofs.peers.slots_by_remainder.Goals as goal

pub loop-slot-init : goal.loop-slot-init
loop-slot-init c = c.no_guesses-guesses.ensures _
