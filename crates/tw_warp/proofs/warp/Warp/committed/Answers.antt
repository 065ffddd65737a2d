use Rattle.std.proofs.Common.{ap, sym, ◌∙◌, subst}
use Rattle.tw_shard.specs.Shards.{HaveAll, RetainAll, committed_of_all}
use Rattle.tw_warp.proofs.AllShards.{have_all, retain_all, same_committed}
use Rattle.tw_warp.proofs.Together.{are_run}
use Rattle.tw_warp.specs.Committed.{committed_events}
use Rattle.tw_warp.specs.Inside.{warp_of}
use Rattle.tw_warp.specs.Warp.{IsWarp}
use Rattle.tw_warp.proofs.warp.Warp.committed.Goals as goal

pub committed_events-requires : goal.committed_events-requires
committed_events-requires c =
    let w = warp_of c.self.inside in
    record {
      all = subst (HaveAll w.case) (sym c.deref.ensures.value) (have_all w c.self.invariant);
      retained = subst (RetainAll w.case) (sym c.deref.ensures.value) (retain_all w c.self.invariant);
    }

pub returns-clause-value : goal.returns-clause-value
returns-clause-value c =
    let w = warp_of c.self.inside in
    c.in_ok-events.ensures ∙ (ap (committed_of_all w.case) c.deref.ensures.value ∙ (same_committed w c.self.invariant ∙ ap committed_events c.self.view_is))

pub returns-clause-run : goal.returns-clause-run
returns-clause-run c = λ all.
    returns-clause-value c ∙ are_run c.args.self.now (subst IsWarp c.self.view_is c.self.invariant) all
