use Rattle.std.proofs.Common.{ap, sym, subst}
use Rattle.tw_model.proofs.Lawful.{lawful}
use Rattle.tw_model.specs.Case.{simulation}
use Rattle.tw_sim.specs.Simulation.{IsLawful}
use Rattle.tw_workers.proofs.Awaited.{from_still, its_own}
use Rattle.tw_workers.specs.Work.{AreAwaitedFrom}
use Rattle.tw_workers.proofs.worker.Worker.release_if_due.Goals as goal

pub returns-in_ok-release_router-clause-awaited : goal.returns-in_ok-release_router-clause-awaited
returns-in_ok-release_router-clause-awaited c =
    let done = c.release_router.ensures in
    let s = c.args.self.now.share.shard in
    let t = c.release_router.new.self.share.shard in
    let law = subst (λ case. IsLawful (simulation case)) (ap (λ x. x.case) done.same.terms) (lawful t.terms.case done.work.case) in
    its_own c.args.router c.release_router.new.self.stop s t law done.same c.requires.own c.in_ok-release_router.ensures.released

pub returns-in_ok-release_router-clause-others : goal.returns-in_ok-release_router-clause-others
returns-in_ok-release_router-clause-others c = λ r was.
    let done = c.release_router.ensures in
    let s = c.args.self.now.share.shard in
    let t = c.release_router.new.self.share.shard in
    let law = subst (λ case. IsLawful (simulation case)) (ap (λ x. x.case) done.same.terms) (lawful t.terms.case done.work.case) in
    subst (λ until. AreAwaitedFrom r until t) (sym done.stop)
    (from_still c.args.router c.args.self.now.stop s t law done.same c.requires.own c.in_ok-release_router.ensures.released r was)
