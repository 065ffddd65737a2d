use Rattle.std.proofs.Common.{IfSome, ◌≡◌, ap, sym, ◌∙◌, subst, true}
use Rattle.tw_model.specs.Effect.{suits}
use Rattle.tw_core.specs.Steps.{first_pending}
use Rattle.tw_model.specs.Case.{simulation}
use Rattle.tw_shard.specs.Shard.{Shard, shard_core}
use Rattle.tw_shard.proofs.Queues.{first_of, first_suits}
use Rattle.tw_shard.proofs.shard.Shard.first_pending.Goals as goal

pub returns-clause-value : goal.returns-clause-value
returns-clause-value c =
    let a = c.self.inside in
    c.least_at.ensures.first
    ∙ (first_of a.case.now c.self.invariant.whole.case c.args.router a.pending.events c.least_at.ensures.queue.rising
    ∙ ap (λ (s : Shard). first_pending (simulation s.terms.case) (shard_core 0 s) c.args.router) c.self.view_is)

pub returns-clause-suits : goal.returns-clause-suits
returns-clause-suits c =
    let a = c.self.inside in
    subst (λ (s : Shard). IfSome c.least_at.result (λ e. suits s.terms.case.net c.args.router e ≡ true)) c.self.view_is
    (subst (λ o. IfSome o (λ e. suits a.case.now.net c.args.router e ≡ true)) (sym c.least_at.ensures.first)
    (first_suits a.case.now.net c.args.router a.pending.events c.self.invariant.whole.pending))
