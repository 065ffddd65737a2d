use Rattle.std.proofs.Common.{◌≡◌, drop}
use Rattle.tw_shard.specs.Shard.{routers}
use Rattle.tw_workers.proofs.Awaited.{AreReleased}
use Rattle.tw_workers.specs.Work.{IsAtWork, StillPreserves}
use Rattle.tw_workers.proofs.worker.Worker.release_where_due.Given as goal

-- the routers that are not left hold only what they may send again
abbrev pub invariant-loop-place : goal.invariant-loop-place
invariant-loop-place l = record {
  same : routers l.self.share.shard ≡ routers l.fn.self.share.shard;
  work : IsAtWork l.self.stop l.self.share;
  awaited : AreReleased (drop l.place (routers l.self.share.shard)) l.self.stop l.self.share.shard;
  kept : StillPreserves l.fn.self l.self;
  mail : l.self.share.mail ≡ l.fn.self.share.mail;
  stop : l.self.stop ≡ l.fn.self.stop;
}
