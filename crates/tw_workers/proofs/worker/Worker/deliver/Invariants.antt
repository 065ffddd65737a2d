use Rattle.std.proofs.Common.{◌≡◌, ◌≤◌, [], length}
use Rattle.tw_model.specs.declared.limits.TheConstants.{LATEST}
use Rattle.tw_table.specs.Shares.{share}
use Rattle.tw_workers.specs.Work.{IsAtWork, StillPreserves}
use Rattle.tw_workers.proofs.worker.Worker.deliver.Given as goal

-- the messages before the next are received
abbrev pub invariant-loop : goal.invariant-loop
invariant-loop l =
    let s = share l.self-inside.shard l.self-inside.hand in
    (l.self-inside.hand.next ≡ l.counter)
    × (length l.self-inside.hand.mail.items ≡ l.end)
    × (l.self-inside.hand.out.items ≡ l.fn.self.share.unsent)
    × IsAtWork l.self-inside.stop s
    × StillPreserves l.fn.self (record { share = s; stop = l.self-inside.stop; batch = l.self-inside.batch })
    × (l.self-inside.stop ≡ l.fn.self.stop)
    × (l.self-inside.stop ≤ LATEST)
    × (l.self-inside.outgoing.items ≡ [])
