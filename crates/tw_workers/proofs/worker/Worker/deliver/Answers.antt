use Rattle.std.proofs.Common.{rules}
use Rattle.tw_table.specs.Shares.{share}
use Rattle.tw_workers.proofs.Places.{kept_both, work_kept}
use Rattle.tw_workers.proofs.worker.Worker.deliver.Goals as goal

pub invariant_of-self : goal.invariant_of-self
invariant_of-self c =
    let inside = c.loop.self-inside in
    let is = c.loop.invariant in
    record {
      work = work_kept inside.stop (share inside.shard inside.hand) (share c.receive_next.new.shard c.receive_next.new.hand) is.3 (c.receive_next.ensures.preserved inside.stop is.3);
      stop = is.6;
      none = is.7;
    }

pub returns-in_err-receive_next-clause-preserved : goal.returns-in_err-receive_next-clause-preserved
returns-in_err-receive_next-clause-preserved c = λ s kept.
    let inside = c.loop.self-inside in
    let is = c.loop.invariant in
    kept_both inside.stop s (share inside.shard inside.hand) (share c.receive_next.new.shard c.receive_next.new.hand) (is.4 s kept) (c.receive_next.ensures.preserved inside.stop is.3)

pub loop-preserved : goal.loop-preserved
loop-preserved c =
    let inside = c.loop.self-inside in
    let is = c.loop.invariant in
    let t = share c.receive_next.new.shard c.receive_next.new.hand in
    let step = c.receive_next.ensures.preserved inside.stop is.3 in (
      search rules,
      search rules,
      search rules,
      work_kept inside.stop (share inside.shard inside.hand) t is.3 step,
      λ s kept. kept_both inside.stop s (share inside.shard inside.hand) t (is.4 s kept) step,
      is.5,
      is.6,
      is.7,
    )
