use Rattle.std.proofs.Common.{◌≡◌, map}
use Rattle.std.specs.List.{range_with_len}
use Rattle.tw_run.specs.Dealing.{owner_after}
use Rattle.tw_run.proofs.dealing.owners.Given as goal

-- the routers before have their workers
abbrev pub invariant-loop-router : goal.invariant-loop-router
invariant-loop-router l = l.owners.items ≡ map (owner_after l.asked l.workers l.routers l.checkpoints) (range_with_len 0 l.router)
