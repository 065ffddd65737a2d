use Rattle.std.proofs.Common.{subst}
use Rattle.tw_core.specs.Run.{IsSeq}
use Rattle.tw_model.specs.Case.{simulation}
use Rattle.tw_warp.specs.Warp.{Warp, warp_core}
use Rattle.tw_warp.proofs.Turns.{seq_of}
use Rattle.tw_warp.proofs.warp.Warp.message_at.Goals as goal

pub returns-clause-seq : goal.returns-clause-seq
returns-clause-seq c = subst (λ (v : Warp). IsSeq (simulation v.case) (warp_core v)) c.self.view_is (seq_of _ c.self.invariant)

pub returns-in_err-index-clause-seq : goal.returns-in_err-index-clause-seq
returns-in_err-index-clause-seq c = subst (λ (v : Warp). IsSeq (simulation v.case) (warp_core v)) c.self.view_is (seq_of _ c.self.invariant)
