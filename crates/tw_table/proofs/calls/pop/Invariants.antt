use Rattle.std.proofs.Common.{◌≡◌}
use Rattle.crossbeam_queue.specs.Passes.{IsSamePass, view}
use Rattle.tw_table.proofs.calls.pop.Given as goal

-- the pass is as it was
abbrev pub invariant-loop : goal.invariant-loop
invariant-loop g l = IsSamePass l.fn.pass l.pass × (view l.pass ≡ view l.fn.pass)
