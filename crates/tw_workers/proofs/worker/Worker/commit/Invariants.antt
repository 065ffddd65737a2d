use Rattle.std.proofs.Common.{◌≡◌, ◌≤◌, [], drop}
use Rattle.tw_model.specs.declared.limits.TheConstants.{LATEST}
use Rattle.tw_shard.specs.Shard.{routers}
use Rattle.tw_table.specs.Shares.{share}
use Rattle.tw_workers.proofs.Commits.{AreDone}
use Rattle.tw_workers.specs.Work.{IsAtWork, StillPreserves}
use Rattle.tw_workers.proofs.worker.Worker.commit.Given as goal

-- the routers that are not left have committed
abbrev pub invariant-loop-place : goal.invariant-loop-place
invariant-loop-place l =
    let s = share l.self-inside.shard l.self-inside.hand in record {
      work : IsAtWork l.self-inside.stop s;
      kept : StillPreserves l.fn.self (record { share = s; stop = l.self-inside.stop; batch = l.self-inside.batch });
      same : routers s.shard ≡ routers l.fn.self.share.shard;
      done : AreDone (drop l.place (routers s.shard)) s.shard;
      mail : s.mail ≡ l.fn.self.share.mail;
      unsent : s.unsent ≡ l.fn.self.share.unsent;
      outgoing : s.shard.outgoing ≡ l.fn.self.share.shard.outgoing;
      stop : l.self-inside.stop ≡ l.fn.self.stop;
      latest : l.self-inside.stop ≤ LATEST;
      none : l.self-inside.outgoing.items ≡ [];
    }
