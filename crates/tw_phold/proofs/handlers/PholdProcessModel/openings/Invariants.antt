use Rattle.std.proofs.Common.{◌≡◌}
use Rattle.tw_process.specs.First.{first}
use Rattle.tw_phold.specs.Phold.{opening_job}
use Rattle.tw_phold.proofs.handlers.PholdProcessModel.openings.Given as goal

-- so many jobs so far
abbrev pub invariant-loop-number : goal.invariant-loop-number
invariant-loop-number l = l.events.items ≡ first (opening_job l.self) l.number
