use Rattle.std.proofs.Common.{◌≡◌, ◌∙◌, Err, ap, subst, sym}
use Rattle.std.specs.Prelude.{IfOk, IsTrue}
use Rattle.tw_exchange.specs.AnyBoard.{AnyBoard, is_early}
use Rattle.tw_exchange.specs.Rows.{any_early}
use Rattle.tw_exchange.specs.declared.visit.Told.{Told}
use Rattle.tw_exchange.specs.declared.visit.VisitFault.{VisitFault}
use Rattle.tw_exchange.specs.declared.visit.VisitFault.TheVariants.{Early}
use Rattle.tw_exchange.proofs.Dealt.{early_dealt}
use Rattle.tw_exchange.proofs.exchange.AnyExchange.visit_dealt.Goals.{in-Ok, in-Err-pass_on_dealt}
use Rattle.tw_exchange.proofs.exchange.AnyExchange.visit_dealt.Goals as goal
use Rattle.tw_model.specs.declared.memory.OrMemory.TheVariants.{Fault}

pub returns-in-Err-clause-early : goal.returns-in-Err-clause-early
returns-in-Err-clause-early g c = λ out is.
    let x = c.args.self.now in
    let same : c.is_early.result ≡ is_early g.E.Timed.parts out c.args.report x = (c.is_early.ensures ∙ ap (λ n. any_early g.E.Timed.parts c.args.report n c.args.parcels.now) c.bound.ensures.value) ∙ early_dealt g.E.Timed.parts x out c.args.parcels.now c.args.report is in
    let told = c.in-Err.ensures.early in (
      (λ e.
          let f : c.in-Err.fault ≡ Early = cc e in
          let here = told.0 (ap Err f) in
          (here.0, subst (λ b. IsTrue b) same here.1)),
      (λ h.
          let e = told.1 (h.0, subst (λ b. IsTrue b) (sym same) h.1) in
          let f : c.in-Err.fault ≡ Early = cc e in
          ap (λ (why : VisitFault). Err (Fault why)) f),
    )

pub returns-clause-halted : goal.returns-clause-halted
returns-clause-halted g c =
    elim c.match-pass_on_dealt.branch [
      | in-Ok w ↦ subst (λ r. IfOk r (λ (told : Told). told.halted ≡ c.args.self.now.halted)) (sym w.result-is)
          (ap (λ (x : AnyBoard g.row.E.Denot). x.halted) (c.self.view_is ∙ w.in-Ok.ensures.board c.requires.dealt.0 c.requires.dealt.1))
      | in-Err-pass_on_dealt w ↦ subst (λ r. IfOk r (λ (told : Told). told.halted ≡ c.args.self.now.halted)) (sym w.result-is) tt
    ]

pub returns-clause-early : goal.returns-clause-early
returns-clause-early g c = λ out is.
    let x = c.args.self.now in
    let same : c.is_early.result ≡ is_early g.E.Timed.parts out c.args.report x = (c.is_early.ensures ∙ ap (λ n. any_early g.E.Timed.parts c.args.report n c.args.parcels.now) c.bound.ensures.value) ∙ early_dealt g.E.Timed.parts x out c.args.parcels.now c.args.report is in (
      (λ e. elim c.match-pass_on_dealt.branch [
        | in-Ok w ↦ absurd (cc (e, w.result-is))
        | in-Err-pass_on_dealt w ↦ absurd (cc (e, w.result-is))
      ]),
      (λ h. absurd (c.in_default.not-Err Early (c.may_visit.ensures.early.1 (h.0, subst (λ b. IsTrue b) (sym same) h.1)))),
    )
