use Rattle.std.proofs.Common.{◌≡◌, true, slice_get, ap, sym, ◌∙◌, subst}
use Rattle.tw_core.specs.Steps.{first_pending}
use Rattle.tw_event.specs.Order.{event_before}
use Rattle.tw_model.proofs.Lawful.{lawful}
use Rattle.tw_model.specs.Case.{simulation}
use Rattle.tw_model.specs.Effect.{suits}
use Rattle.tw_ordered.proofs.Told.{on_false, on_true}
use Rattle.tw_shard.specs.Inside.{IsShard}
use Rattle.tw_shard.specs.Shard.{Shard, shard_core}
use Rattle.tw_shard.proofs.Queues.{head_next, head_suits, least_first}
use Rattle.tw_sim.specs.Ordered.{least}
use Rattle.tw_shard.proofs.shard.Shard.copy_least.Goals as goal
use Rattle.tw_shard.proofs.shard.Shard.copy_least.Goals.{After-copy_least_before}

-- the least of what is pending stands first
first : (c : After-copy_least_before) → least event_before c.args.self.now.pending ≡ slice_get c.self.inside.pending.events 0
first c =
    let a = c.self.inside in
    let case = a.case.now in
    ap (λ (s : Shard). least event_before s.pending) (sym c.self.view_is)
    ∙ least_first (simulation case) (lawful case c.self.invariant.whole.case) a.pending.events c.copy_least_before.ensures.queue.rising

pub invariant_of-self : goal.invariant_of-self
invariant_of-self c =
    subst (λ q. IsShard (record c.self.inside { pending = q })) (sym c.copy_least_before.ensures.same) c.self.invariant

pub returns-clause-least : goal.returns-clause-least
returns-clause-least c =
    on_true c.copy_least_before.result (λ some. first (goal.at.returns-clause-least c).After-copy_least_before ∙ sym some) c.copy_least_before.ensures.some

pub returns-clause-first : goal.returns-clause-first
returns-clause-first c =
    on_true c.copy_least_before.result (λ some. ap (λ (s : Shard). slice_get s.pending 0) (sym c.self.view_is) ∙ sym some) c.copy_least_before.ensures.some

pub returns-clause-next : goal.returns-clause-next
returns-clause-next c = λ stop.
    let a = c.self.inside in
    let e = c.copy_least_before.new.event in
    on_true c.copy_least_before.result (λ some.
    ap (λ (s : Shard). first_pending (simulation s.terms.case) (shard_core stop s) e.dst) (sym c.self.view_is)
    ∙ head_next a.case.now c.self.invariant.whole.case e a.pending.events c.copy_least_before.ensures.queue.rising (sym some)) c.copy_least_before.ensures.some

pub returns-clause-suits : goal.returns-clause-suits
returns-clause-suits c =
    let a = c.self.inside in
    let e = c.copy_least_before.new.event in
    on_true c.copy_least_before.result (λ some.
    subst (λ (s : Shard). suits s.terms.case.net e.dst e ≡ true) c.self.view_is
    (head_suits a.case.now.net e a.pending.events (sym some) c.self.invariant.whole.pending)) c.copy_least_before.ensures.some

pub returns-clause-none : goal.returns-clause-none
returns-clause-none c =
    on_false c.copy_least_before.result (λ late e is. late e (sym (first (goal.at.returns-clause-none c).After-copy_least_before) ∙ is)) c.copy_least_before.ensures.none
