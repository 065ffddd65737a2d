use Rattle.std.proofs.Common.{◌≡◌, ◌↔◌, true, ap, sym, ◌∙◌, subst}
use Rattle.std.specs.List.{list_all}
use Rattle.tw_parallel.proofs.Shares.{retain_all}
use Rattle.tw_parallel.specs.Sim.{RetainsEvents, Sim}
use Rattle.tw_shard.specs.Shard.{Shard}
use Rattle.tw_parallel.proofs.sim.Sim.retains_events.Goals as goal

pub returns : goal.returns
returns c =
    let a = c.self.inside in
    let told = c.do_all_retain.ensures ∙ ap (list_all (λ (s : Shard). s.terms.retains)) c.deref.ensures.value in
    let is = retain_all a.shards.items a.hands.items c.self.invariant.hands in
    subst (λ (s : Sim). (c.do_all_retain.result ≡ true) ↔ RetainsEvents s) c.self.view_is ((λ all. is.0 (sym told ∙ all)), (λ all. told ∙ is.1 all))
