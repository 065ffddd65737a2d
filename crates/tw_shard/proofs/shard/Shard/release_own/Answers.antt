use Rattle.std.proofs.Common.{◌≡◌, ◌==◌, length, not, refl, ap, sym, ◌∙◌, subst}
use Rattle.tw_event.specs.Order.{event_before, event_same}
use Rattle.tw_core.specs.Steps.{from}
use Rattle.tw_model.specs.Case.{simulation}
use Rattle.tw_sim.specs.Rising.{IsRising}
use Rattle.tw_shard.specs.Inside.{shard_of}
use Rattle.tw_shard.specs.Shard.{Shard, released_at}
use Rattle.tw_shard.proofs.Releasing.{none_released, rising_part, sent_shard}
use Rattle.tw_shard.proofs.shard.Shard.release_own.Goals as goal

pub returns-then-count-eq0-clause-ok : goal.returns-then-count-eq0-clause-ok
returns-then-count-eq0-clause-ok c =
    subst (λ (s : Shard). s ≡ released_at s c.args.router) c.self.view_is
    (none_released (shard_of c.self.inside) c.args.router (sym c.count_of_sender-count.ensures ∙ c.if-count-eq0.true))

pub returns-in_err-reserve-clause-free : goal.returns-in_err-reserve-clause-free
returns-in_err-reserve-clause-free c = λ none.
    absurd (c.if-count-eq0.false
    (c.count_of_sender-count.ensures ∙ ap length (ap (λ (s : Shard). from (simulation s.terms.case) c.args.router s.held) c.self.view_is ∙ none)))

pub invariant_of-self-2 : goal.invariant_of-self-2
invariant_of-self-2 c =
    let a = c.self.inside in
    let r = c.args.router in
    sent_shard a _ c.self.invariant refl c.release.ensures.routers
    (subst (IsRising event_before event_same) (sym c.release.ensures.events)
    (rising_part a.case.now c.self.invariant.whole.case (λ e. not (e.src == r)) a.held.events c.self.invariant.whole.held))
