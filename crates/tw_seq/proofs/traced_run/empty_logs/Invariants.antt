use Rattle.std.proofs.Common.{◌≡◌, [], replicate}
use Rattle.tw_seq.specs.Traced.{lists_of}
use Rattle.tw_seq.proofs.traced_run.empty_logs.Given as goal

abbrev pub invariant-loop : goal.invariant-loop
invariant-loop l = lists_of l.logs.items ≡ replicate l.counter []
