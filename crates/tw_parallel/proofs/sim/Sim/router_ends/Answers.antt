use Rattle.std.proofs.Common.{ap, map, sym, ◌∙◌, subst}
use Rattle.tw_model.specs.Summary.{end_of}
use Rattle.tw_parallel.proofs.Owners.{have_all, same_ends}
use Rattle.tw_parallel.specs.Settled.{states_of}
use Rattle.tw_parallel.specs.Inside.{sim_of}
use Rattle.tw_parallel.specs.Sim.{Sim}
use Rattle.tw_shard.specs.Shards.{HaveAll, ends_of_all}
use Rattle.tw_parallel.proofs.sim.Sim.router_ends.Goals as goal

pub router_ends-requires : goal.router_ends-requires
router_ends-requires c =
    let a = c.self.inside in
    subst (HaveAll (sim_of a).case) (sym c.deref.ensures.value) (have_all a c.self.invariant)

pub returns : goal.returns
returns c =
    let a = c.self.inside in
    c.in_ok-ends.ensures
    ∙ (ap (ends_of_all (sim_of a).case) c.deref.ensures.value
    ∙ (same_ends a c.self.invariant ∙ ap (λ (s : Sim). map end_of (states_of s)) c.self.view_is))
