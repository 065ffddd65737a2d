use Rattle.std.proofs.Common.{ap, sym, ◌∙◌, subst}
use Rattle.tw_core.specs.Run.{IsSeq}
use Rattle.tw_model.specs.Case.{simulation}
use Rattle.tw_parallel.proofs.Owners.{have_all, retain_all, same_committed, seq_of}
use Rattle.tw_parallel.specs.Inside.{sim_of}
use Rattle.tw_parallel.specs.Sim.{RetainsEvents, Sim, committed_events, machine}
use Rattle.tw_shard.specs.Shards.{HaveAll, RetainAll, committed_of_all}
use Rattle.tw_parallel.proofs.sim.Sim.committed.Goals as goal

pub committed_events-requires : goal.committed_events-requires
committed_events-requires c =
    let a = c.self.inside in
    let s = sim_of a in
    record {
      all = subst (HaveAll s.case) (sym c.deref.ensures.value) (have_all a c.self.invariant);
      retained = subst (RetainAll s.case) (sym c.deref.ensures.value) (retain_all a c.self.invariant (subst RetainsEvents (sym c.self.view_is) c.requires));
    }

pub returns-in_err-events-clause-seq : goal.returns-in_err-events-clause-seq
returns-in_err-events-clause-seq c = subst (λ (s : Sim). IsSeq (simulation s.case) (machine s)) c.self.view_is (seq_of _ c.self.invariant.sim)

pub returns-clause-value : goal.returns-clause-value
returns-clause-value c =
    let a = c.self.inside in
    c.in_ok-events.ensures
    ∙ (ap (committed_of_all (sim_of a).case) c.deref.ensures.value ∙ (same_committed a c.self.invariant ∙ ap committed_events c.self.view_is))

pub returns-clause-seq : goal.returns-clause-seq
returns-clause-seq c = subst (λ (s : Sim). IsSeq (simulation s.case) (machine s)) c.self.view_is (seq_of _ c.self.invariant.sim)
