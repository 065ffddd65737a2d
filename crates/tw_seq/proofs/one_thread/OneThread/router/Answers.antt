use Rattle.std.proofs.Common.{arith, ap, length, sym, ◌∙◌, subst, ◌<◌}
use Rattle.tw_seq.specs.Run.{router_after}
use Rattle.tw_seq.specs.Thread.{run_of}
use Rattle.tw_seq.proofs.Handled.{length-routers}
use Rattle.tw_seq.proofs.Going.{router_of}
use Rattle.tw_seq.proofs.one_thread.OneThread.router.Goals as goal
use Rattle.tw_seq.proofs.one_thread.OneThread.router.Goals.{After-self}

below : (c : After-self) → c.args.router < c.self.inside.case.now.net.nodes
below c = subst (λ run. c.args.router < run.case.net.nodes) (sym c.self.view_is) c.requires

pub index-requires : goal.index-requires
index-requires c =
    let a = c.self.inside in
    let count = ap length c.self.invariant.routers ∙ length-routers a.case.now (run_of a).events in
    let len = a.routers.ok.0 in
    let within = below c in
    omega arith

pub returns-clause-value : goal.returns-clause-value
returns-clause-value c =
    let a = c.self.inside in
    c.index.ensures
    ∙ (router_of a.case.now (run_of a).events a.routers.items c.args.router c.index.result.now c.self.invariant.routers (below (goal.at.returns-clause-value c).After-self)
    ∙ ap (λ run. router_after run.case run.events c.args.router) c.self.view_is)
