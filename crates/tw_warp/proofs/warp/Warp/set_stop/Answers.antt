use Rattle.std.proofs.Common.{subst}
use Rattle.tw_core.specs.Run.{IsSeq}
use Rattle.tw_model.specs.Case.{simulation}
use Rattle.tw_warp.specs.Inside.{warp_of}
use Rattle.tw_warp.specs.Warp.{Warp, warp_core}
use Rattle.tw_warp.proofs.Turns.{later_stop, seq_of}
use Rattle.tw_warp.proofs.warp.Warp.set_stop.Goals as goal

pub returns-then-stop-self-clause-seq : goal.returns-then-stop-self-clause-seq
returns-then-stop-self-clause-seq c = subst (λ (v : Warp). IsSeq (simulation v.case) (warp_core v)) c.self.view_is (seq_of _ c.self.invariant)

pub returns-clause-seq : goal.returns-clause-seq
returns-clause-seq c =
    seq_of _ (later_stop (warp_of c.self.inside) c.args.stop c.self.invariant c.if-stop-self.false c.if-stop-gt-LATEST.false)
