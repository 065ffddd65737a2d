use Rattle.std.proofs.Common.{◌≡◌, [], Err, ap, sym, ◌∙◌, subst}
use Rattle.tw_core.specs.declared.refusal.Refusal.TheVariants as refusal
use Rattle.tw_engine.specs.declared.stopped.Stopped.TheVariants as stopped
use Rattle.tw_engine.specs.Process.{Logical}
use Rattle.tw_process.specs.Behaviour.{simulation_of}
use Rattle.tw_rounds.proofs.Members.{handled, mailed, to_same}
use Rattle.tw_rounds.specs.Members.{IsFullBefore, KeepsTo}
use Rattle.tw_rounds.specs.Shares.{on_way}
use Rattle.tw_rounds.proofs.member.Member.handle_next.Goals as goal
use Rattle.tw_rounds.proofs.member.Member.handle_next.Goals.{in-Ok, in-Err-Memory, in-Err-Refused-CounterFull, in-Err-Refused}

pub returns-clause-kept : goal.returns-clause-kept
returns-clause-kept g c =
    let a = c.self.inside in
    let sim = λ (model : g.row.M.Denot). simulation_of g.M.Event.Timed.parts g.M.Event.Ord.cmp (g.M.ProcessModel.behaviour model) in
    let x = mailed a.process [] (on_way a.sent) a.least in
    let keeps = λ (q : Logical _ _). KeepsTo (sim a.process.model) c.args.limit x (mailed q [] (on_way a.sent) a.least) in
    let same = λ (is : ◌≡◌ c.handle_next.new.self a.process). subst keeps (sym is) (to_same (sim a.process.model) c.args.limit x) in
    subst (λ z. KeepsTo (sim z.process.model) c.args.limit z (mailed c.handle_next.new.self [] (on_way a.sent) a.least)) c.self.view_is
    (elim c.match-handle_next.branch [
      | in-Ok w ↦ handled (sim a.process.model) c.args.limit x c.handle_next.new.self c.handle_next.ensures.same.model c.handle_next.ensures.same.number w.in-Ok.ensures.ok
      | in-Err-Memory w ↦ same w.in-Err-Memory.ensures.err
      | in-Err-Refused-CounterFull w ↦ same w.in-Err-Refused-CounterFull.ensures.err
      | in-Err-Refused w ↦ same w.in-Err-Refused.ensures.err
    ])

pub returns-clause-full : goal.returns-clause-full
returns-clause-full g c = λ told.
    let a = c.self.inside in
    let sim = λ (model : g.row.M.Denot). simulation_of g.M.Event.Timed.parts g.M.Event.Ord.cmp (g.M.ProcessModel.behaviour model) in
    subst (λ z. IsFullBefore (sim z.process.model) c.args.limit c.handle_next.new.self) c.self.view_is
    (elim c.match-handle_next.branch [
      | in-Ok w ↦ (let is = w.result-is in cc)
      | in-Err-Memory w ↦ (let is = w.result-is in cc)
      | in-Err-Refused-CounterFull w ↦
          let arm = w.in-Err-Refused-CounterFull in
          let is = arm.is ∙ ap (λ r. Err r) (arm.field-0-is ∙ ap (λ f. stopped.Refused f) arm.field-0-0-is) in
          subst (λ p. IsFullBefore (sim a.process.model) c.args.limit p) (sym arm.ensures.err) ((c.handle_next.ensures.refused refusal.CounterFull).0 is)
      | in-Err-Refused w ↦ (let is = w.result-is in cc)
    ])
