use Rattle.std.proofs.Common.{ap, sym, ◌∙◌, subst}
use Rattle.std.specs.List.{range_with_len}
use Rattle.tw_parallel.proofs.Owners.{have_all, same_change}
use Rattle.tw_parallel.specs.Settled.{change_of}
use Rattle.tw_parallel.specs.Inside.{sim_of}
use Rattle.tw_parallel.specs.Sim.{Sim}
use Rattle.tw_shard.specs.Shards.{HaveAll, change_of_all, greatest}
use Rattle.tw_parallel.proofs.sim.Sim.last_change.Goals as goal

pub last_change-requires : goal.last_change-requires
last_change-requires c =
    let a = c.self.inside in
    subst (HaveAll (sim_of a).case) (sym c.deref.ensures.value) (have_all a c.self.invariant)

pub returns : goal.returns
returns c =
    let a = c.self.inside in
    c.last_change.ensures
    ∙ (ap (change_of_all (sim_of a).case) c.deref.ensures.value
    ∙ (same_change a c.self.invariant ∙ ap (λ (s : Sim). greatest (λ r. change_of s r) (range_with_len 0 s.case.net.nodes)) c.self.view_is))
