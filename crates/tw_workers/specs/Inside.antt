-- What the fields of a worker say, and what holds of them (own).
use Rattle.std.specs.Prelude.{◌≡◌, ◌≤◌, []}
use Rattle.tw_model.specs.declared.limits.TheConstants.{LATEST}
use Rattle.tw_table.specs.Shares.{share}
use Rattle.tw_workers.specs.declared.worker.Worker.TheInside.{Inside}
use Rattle.tw_workers.specs.Work.{IsAtWork, Worker}

-- the worker that the fields stand for
abbrev pub worker_of : Inside → Worker
worker_of a = record { share = share a.shard a.hand; stop = a.stop; batch = a.batch }

-- it is at work, and keeps no message apart
pub record IsWorker (a : Inside) : Type 0 where
  pub work : IsAtWork a.stop (share a.shard a.hand)
  pub stop : a.stop ≤ LATEST
  pub none : a.outgoing.items ≡ []
