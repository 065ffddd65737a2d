use Rattle.std.proofs.Common.{[], ap, ◌∙◌, subst}
use Rattle.tw_core.specs.Run.{IsSeq}
use Rattle.tw_event.specs.Order.{event_before}
use Rattle.tw_model.specs.Case.{simulation}
use Rattle.tw_parallel.proofs.Owners.{same_pending, seq_of}
use Rattle.tw_parallel.specs.Sim.{Sim, machine}
use Rattle.tw_shard.specs.Shards.{pending_of_all}
use Rattle.tw_sim.specs.Ordered.{insert_all}
use Rattle.tw_parallel.proofs.sim.Sim.pending.Goals as goal

pub returns-in_err-events-clause-seq : goal.returns-in_err-events-clause-seq
returns-in_err-events-clause-seq c = subst (λ (s : Sim). IsSeq (simulation s.case) (machine s)) c.self.view_is (seq_of _ c.self.invariant.sim)

pub returns-clause-value : goal.returns-clause-value
returns-clause-value c =
    c.in_ok-events.ensures
    ∙ (ap pending_of_all c.deref.ensures.value
    ∙ (ap (λ es. insert_all event_before es []) (same_pending c.self.inside c.self.invariant)
    ∙ ap (λ (s : Sim). insert_all event_before (machine s).pending []) c.self.view_is))

pub returns-clause-seq : goal.returns-clause-seq
returns-clause-seq c = subst (λ (s : Sim). IsSeq (simulation s.case) (machine s)) c.self.view_is (seq_of _ c.self.invariant.sim)
