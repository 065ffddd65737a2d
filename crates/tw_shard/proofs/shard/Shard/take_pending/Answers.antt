use Rattle.std.proofs.Common.{◌≡◌, true, ap, ◌∙◌, sym, subst}
use Rattle.std.specs.List.{AllByRecursion}
use Rattle.tw_model.specs.Effect.{suits}
use Rattle.tw_shard.specs.Inside.{shard_of}
use Rattle.tw_shard.proofs.Arrivals.{counted, not_there, pending_shard}
use Rattle.tw_shard.proofs.Queues.{suit_without}
use Rattle.tw_shard.proofs.shard.Shard.take_pending.Goals as goal

pub invariant_of-self : goal.invariant_of-self
invariant_of-self c =
    let a = c.self.inside in
    let e = c.args.event.now in
    counted (record a { pending = c.remove_one-is_taken.new.self }) c.count_pending.new.self
    (pending_shard a c.remove_one-is_taken.new.self c.self.invariant c.remove_one-is_taken.ensures.routers
    (subst (AllByRecursion (λ x. suits a.case.now.net x.dst x ≡ true)) (sym c.remove_one-is_taken.ensures.events)
    (suit_without a.case.now.net e a.pending.events c.self.invariant.whole.pending)))

pub returns-clause-none : goal.returns-clause-none
returns-clause-none c = λ none.
    let a = c.self.inside in
    let same = c.remove_one-is_taken.ensures.events ∙ not_there c.args.event.now a.pending.events (λ some. cc (c.remove_one-is_taken.ensures.found.1 some, none)) in
    ap (λ pending. record (shard_of a) { pending = pending }) same ∙ c.self.view_is
