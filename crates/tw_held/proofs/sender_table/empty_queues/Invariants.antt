use Rattle.std.proofs.Common.{◌≡◌, [], replicate}
use Rattle.tw_held.proofs.sender_table.empty_queues.Given as goal

abbrev pub invariant-loop : goal.invariant-loop
invariant-loop l = l.queues.items ≡ replicate l.counter []
