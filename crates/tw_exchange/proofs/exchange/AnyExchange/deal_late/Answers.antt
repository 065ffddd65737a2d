use Rattle.std.proofs.Common.{◌≡◌, ◌∙◌, Err, arith, ap, sym}
use Rattle.std.proofs.lemmas.Grind.{common_steps}
use Rattle.tw_exchange.specs.AnyBoard.{is_early, workers}
use Rattle.tw_exchange.proofs.Refusals.{may_go}
use Rattle.tw_exchange.proofs.exchange.AnyExchange.deal_late.Goals as goal
use Rattle.tw_exchange.specs.declared.visit.VisitFault.TheVariants.{Early}
use Rattle.tw_model.specs.declared.memory.OrMemory.TheVariants.{Fault}

pub returns-in-Err-clause-no_router : goal.returns-in-Err-clause-no_router
returns-in-Err-clause-no_router g c =
    let x = c.args.self.now in
    let is : c.is_early.result ≡ is_early g.E.Timed.parts c.args.out.now c.args.report x
    = c.is_early.ensures ∙ ap (λ n. is_early g.E.Timed.parts c.args.out.now c.args.report (record x { bound = n })) c.bound.ensures.value in
    rw (← is) (grind (arith, common_steps))

pub returns-in-Err-deal-clause-early : goal.returns-in-Err-deal-clause-early
returns-in-Err-deal-clause-early g c =
    let x = c.args.self.now in
    let is : c.is_early.result ≡ is_early g.E.Timed.parts c.args.out.now c.args.report x
    = c.is_early.ensures ∙ ap (λ n. is_early g.E.Timed.parts c.args.out.now c.args.report (record x { bound = n })) c.bound.ensures.value in
    let go = may_go c.may_visit.result c.args.worker (workers x) c.is_early.result c.in_default.not-Err c.may_visit.ensures.no_worker c.may_visit.ensures.early in
    let late = sym is ∙ go.1 in (
      (λ e. absurd (c.in-Err-deal.ensures.early (let f : c.in-Err-deal.why ≡ Fault Early = cc e in ap Err f))),
      (λ h. absurd (cc (late, h.1))),
    )

pub returns-clause-late : goal.returns-clause-late
returns-clause-late g c =
    let x = c.args.self.now in
    let is : c.is_early.result ≡ is_early g.E.Timed.parts c.args.out.now c.args.report x
    = c.is_early.ensures ∙ ap (λ n. is_early g.E.Timed.parts c.args.out.now c.args.report (record x { bound = n })) c.bound.ensures.value in
    sym is ∙ (may_go c.may_visit.result c.args.worker (workers x) c.is_early.result c.in_default.not-Err c.may_visit.ensures.no_worker c.may_visit.ensures.early).1

pub returns-clause-within : goal.returns-clause-within
returns-clause-within g c = (may_go c.may_visit.result c.args.worker (workers c.args.self.now) c.is_early.result c.in_default.not-Err c.may_visit.ensures.no_worker c.may_visit.ensures.early).0

pub returns-clause-early : goal.returns-clause-early
returns-clause-early g c = ((λ e. absurd (cc e)), (λ h. absurd (cc (returns-clause-late g c, h.1))))
