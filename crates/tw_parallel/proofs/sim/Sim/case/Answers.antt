use Rattle.std.proofs.Common.{subst}
use Rattle.tw_core.specs.Run.{IsSeq}
use Rattle.tw_model.specs.Case.{simulation}
use Rattle.tw_parallel.proofs.Owners.{seq_of}
use Rattle.tw_parallel.specs.Sim.{Sim, machine}
use Rattle.tw_parallel.proofs.sim.Sim.case.Goals as goal

pub returns-clause-seq : goal.returns-clause-seq
returns-clause-seq c = subst (λ (s : Sim). IsSeq (simulation s.case) (machine s)) c.self.view_is (seq_of _ c.self.invariant.sim)
