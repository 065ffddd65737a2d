use Rattle.std.proofs.Common.{◌≡◌, true, sym, subst}
use Rattle.std.specs.List.{AllByRecursion}
use Rattle.tw_event.specs.Order.{event_before}
use Rattle.tw_model.specs.Effect.{suits}
use Rattle.tw_sim.proofs.Ordered.{all-insert}
use Rattle.tw_shard.specs.Shard.{Shard}
use Rattle.tw_shard.proofs.Arrivals.{pending_shard}
use Rattle.tw_shard.proofs.shard.Shard.add_pending.Goals as goal

pub invariant_of-self-2 : goal.invariant_of-self-2
invariant_of-self-2 c =
    let a = c.self.inside in
    let e = c.args.event.now in
    let suit : suits a.case.now.net e.dst e ≡ true = subst (λ (s : Shard). suits s.terms.case.net e.dst e ≡ true) (sym c.self.view_is) c.requires.suit in
    pending_shard a c.insert.new.self c.self.invariant c.insert.ensures.routers
    (subst (AllByRecursion (λ x. suits a.case.now.net x.dst x ≡ true)) (sym c.in_ok-insert.ensures.ok)
    (all-insert event_before (λ x. suits a.case.now.net x.dst x ≡ true) e a.pending.events suit c.self.invariant.whole.pending))
