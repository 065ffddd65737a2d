use Rattle.std.proofs.Common.{ap, sym, ◌∙◌, subst}
use Rattle.std.specs.List.{range_with_len}
use Rattle.tw_core.specs.Parts.{total}
use Rattle.tw_parallel.proofs.Owners.{have_all, same_ahead}
use Rattle.tw_parallel.specs.Settled.{ahead_of}
use Rattle.tw_parallel.specs.Inside.{sim_of}
use Rattle.tw_parallel.specs.Sim.{Sim}
use Rattle.tw_shard.specs.Shards.{HaveAll, ahead_of_all}
use Rattle.tw_parallel.proofs.sim.Sim.ahead.Goals as goal

pub count_ahead-requires : goal.count_ahead-requires
count_ahead-requires c =
    let a = c.self.inside in
    subst (HaveAll (sim_of a).case) (sym c.deref.ensures.value) (have_all a c.self.invariant)

pub returns : goal.returns
returns c =
    let a = c.self.inside in
    c.count_ahead.ensures
    ∙ (ap (ahead_of_all (sim_of a).case) c.deref.ensures.value
    ∙ (same_ahead a c.self.invariant ∙ ap (λ (s : Sim). total (λ r. ahead_of s r) (range_with_len 0 s.case.net.nodes)) c.self.view_is))
