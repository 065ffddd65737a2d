use Prim.Native.Nat.{◌+◌, ◌-◌, ◌*◌}
use Rattle.tw_rounds.proofs.turning.+turns.Given as goal

abbrev pub decreases-turn_from : goal.decreases-turn_from
decreases-turn_from g l = 4 * l.count

abbrev pub decreases-turn_both : goal.decreases-turn_both
decreases-turn_both g l = 4 * (l.one + l.count) - 1

abbrev pub decreases-turn_both-front : goal.decreases-turn_both-front
decreases-turn_both-front g l = 4 * l.one + 1

abbrev pub decreases-turn_both-back : goal.decreases-turn_both-back
decreases-turn_both-back g l = 4 * l.count + 1
