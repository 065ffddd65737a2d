use Rattle.std.proofs.Common.{◌≡◌, map, take}
use Rattle.tw_router.specs.Ranks.{rank}
use Rattle.tw_router.proofs.ranks.refresh.Given as goal

abbrev pub invariant-loop-slot : goal.invariant-loop-slot
invariant-loop-slot l = take l.slot l.ranks ≡ map (rank l.instance l.node l.order l.barred) (take l.slot l.rows)
