use Rattle.std.proofs.Common.{sym, subst, arith}
use Rattle.tw_core.specs.Run.{IsSeq}
use Rattle.tw_exchange.specs.Board.{Board}
use Rattle.tw_model.specs.Case.{simulation}
use Rattle.tw_parallel.proofs.Owners.{reopens, seq_of}
use Rattle.tw_parallel.specs.Inside.{sim_of}
use Rattle.tw_parallel.specs.Sim.{IsSim, Sim, machine}
use Rattle.tw_parallel.proofs.sim.Sim.raise_stop.Goals as goal

pub returns-then-stop-clause-seq : goal.returns-then-stop-clause-seq
returns-then-stop-clause-seq c = subst (λ (s : Sim). IsSeq (simulation s.case) (machine s)) c.self.view_is (seq_of _ c.self.invariant.sim)

is : (c : goal.After-reopen) → IsSim (sim_of (record { case = c.self.inside.case; exchange = c.reopen.new.self; shards = c.self.inside.shards; hands = c.self.inside.hands }))
is c =
    let low = c.if-stop.false in
    let high = c.if-stop-gt-LATEST.false in
    let now = c.stop.ensures.value in
    subst (λ (x : Board). IsSim (sim_of (record { case = c.self.inside.case; exchange = x; shards = c.self.inside.shards; hands = c.self.inside.hands })))
    (sym c.reopen.ensures) (reopens (sim_of c.self.inside) c.self.invariant.sim c.args.stop (omega arith) (omega arith))

pub invariant_of-self : goal.invariant_of-self
invariant_of-self c = record { sim = is c; hands = c.self.invariant.hands }

pub returns-clause-seq : goal.returns-clause-seq
returns-clause-seq c = seq_of _ (is c)
