use Rattle.std.proofs.Common.{◌≡◌, ◌+◌, length, Ok, Err, set, slice_get, ap, sym, subst, ◌∙◌, arith}
use Rattle.std.proofs.lemmas.Result.{err_from_is_err_and}
use Rattle.std.specs.Result.{IsErrOf}
use Rattle.tw_process.specs.Behaviour.{simulation_of}
use Rattle.tw_process.specs.declared.refused.Refused.{Refused}
use Rattle.tw_process.specs.declared.refused.Refused.TheVariants.{CounterFull}
use Rattle.tw_sequential.specs.Run.{IsNextRun, IsStuck, run_after}
use Rattle.tw_sequential.proofs.Step.{done_kept, done_next, early, other_items, ready, same_kept, stuck_told, suits, told_stuck, within}
use Rattle.tw_sequential.proofs.sequential.Sequential.handle_next.Goals as goal

pub handle_at-requires-clause-within : goal.handle_at-requires-clause-within
handle_at-requires-clause-within g c =
    let next = ready g.M.Event.Timed.parts g.M.Event.Ord.cmp g.M.ProcessModel.behaviour g.M.ProcessModel.is_state g.M.ProcessModel.known c.model_is_lawful.ensures.lawful c.self.invariant.0
    c.self.view_is c.requires in
    let there = within next in
    let value = ap length c.deref_mut.ensures.value in
    omega (arith, c.dst.ensures)

pub handle_at-requires-clause-suits : goal.handle_at-requires-clause-suits
handle_at-requires-clause-suits g c =
    let next = ready g.M.Event.Timed.parts g.M.Event.Ord.cmp g.M.ProcessModel.behaviour g.M.ProcessModel.is_state g.M.ProcessModel.known c.model_is_lawful.ensures.lawful c.self.invariant.0
    c.self.view_is c.requires in
    suits next

pub handle_at-requires-clause-time : goal.handle_at-requires-clause-time
handle_at-requires-clause-time g c =
    let next = ready g.M.Event.Timed.parts g.M.Event.Ord.cmp g.M.ProcessModel.behaviour g.M.ProcessModel.is_state g.M.ProcessModel.known c.model_is_lawful.ensures.lawful c.self.invariant.0
    c.self.view_is c.requires in
    early next _ c.self.invariant.3

pub invariant_of-self : goal.invariant_of-self
invariant_of-self g c =
    let next = ready g.M.Event.Timed.parts g.M.Event.Ord.cmp g.M.ProcessModel.behaviour g.M.ProcessModel.is_state g.M.ProcessModel.known c.model_is_lawful.ensures.lawful c.self.invariant.0
    c.self.view_is c.requires in
    let items = other_items c.self.inside.states.len c.handle_at.new.states _ (c.handle_at.auto.states ∙ c.deref_mut.ensures.len) in
    let value = c.deref_mut.ensures.value in
    let number = c.dst.result in
    let home = sym c.dst.ensures in (
      same_kept next number home _ c.handle_at.new.pending
          (λ before at.
          let k = c.in_err-handle_at.ensures.handled before (ap (λ xs. slice_get xs number) value ∙ at) in
          (k.0, items ∙ (k.1 ∙ ap (λ xs. set xs number k.0) value), k.2, k.4))
          c.in_err-handle_at.ensures.err,
      c.in_err-handle_at.ensures.empty,
      omega (arith, c.in_err-handle_at.ensures.room, c.self.invariant.2),
      c.self.invariant.3,
    )

pub returns-in_err-handle_at-clause-full : goal.returns-in_err-handle_at-clause-full
returns-in_err-handle_at-clause-full g c =
    let next = ready g.M.Event.Timed.parts g.M.Event.Ord.cmp g.M.ProcessModel.behaviour g.M.ProcessModel.is_state g.M.ProcessModel.known c.model_is_lawful.ensures.lawful c.self.invariant.0
    c.self.view_is c.requires in
    λ h.
    let p = err_from_is_err_and c.from_residual.result c.from_residual.ensures.1 in
    let is_full : ◌≡◌ {A = Refused} p.0 CounterFull = cc (p.1, h) in
    subst (λ run. IsStuck (simulation_of g.M.Event.Timed.parts g.M.Event.Ord.cmp (g.M.ProcessModel.behaviour run.model)) run) c.self.view_is
    (told_stuck next c.dst.result (sym c.dst.ensures) (IsErrOf {T = Unit {0}} {E = Refused} (Err c.in_err-handle_at.field-0.0) CounterFull)
    (λ before at. (c.in_err-handle_at.ensures.handled before (ap (λ xs. slice_get xs c.dst.result) c.deref_mut.ensures.value ∙ at)).6)
    (ap (λ x. Err x) (sym p.2 ∙ is_full)))

pub returns-in_err-handle_at-clause-stuck : goal.returns-in_err-handle_at-clause-stuck
returns-in_err-handle_at-clause-stuck g c =
    let next = ready g.M.Event.Timed.parts g.M.Event.Ord.cmp g.M.ProcessModel.behaviour g.M.ProcessModel.is_state g.M.ProcessModel.known c.model_is_lawful.ensures.lawful c.self.invariant.0
    c.self.view_is c.requires in
    λ stuck.
    let p = err_from_is_err_and c.from_residual.result c.from_residual.ensures.1 in
    let told =
    stuck_told next c.dst.result (sym c.dst.ensures) (IsErrOf {T = Unit {0}} {E = Refused} (Err c.in_err-handle_at.field-0.0) CounterFull)
    (λ before at. (c.in_err-handle_at.ensures.handled before (ap (λ xs. slice_get xs c.dst.result) c.deref_mut.ensures.value ∙ at)).6)
    c.if-self-ge-MOST_EVENTS.false
    (subst (λ run. IsStuck (simulation_of g.M.Event.Timed.parts g.M.Event.Ord.cmp (g.M.ProcessModel.behaviour run.model)) run) (sym c.self.view_is) stuck) in
    let is_full : ◌≡◌ {A = Refused} p.0 CounterFull = cc (p.2, told) in p.1 ∙ ap (λ x. Err x) is_full

pub invariant_of-self-2 : goal.invariant_of-self-2
invariant_of-self-2 g c =
    let next = ready g.M.Event.Timed.parts g.M.Event.Ord.cmp g.M.ProcessModel.behaviour g.M.ProcessModel.is_state g.M.ProcessModel.known c.model_is_lawful.ensures.lawful c.self.invariant.0
    c.self.view_is c.requires in
    let items = other_items c.self.inside.states.len c.handle_at.new.states _ (c.handle_at.auto.states ∙ c.deref_mut.ensures.len) in
    let value = c.deref_mut.ensures.value in
    let number = c.dst.result in
    let home = sym c.dst.ensures in (
      done_kept next number home _ c.handle_at.new.pending
          (λ before at.
          let k = c.in_ok-handle_at.ensures.handled before (ap (λ xs. slice_get xs number) value ∙ at) in
          (k.0, items ∙ (k.1 ∙ ap (λ xs. set xs number k.0) value), k.2, k.3, k.5)),
      c.in_ok-handle_at.ensures.empty,
      omega (arith, c.in_ok-handle_at.ensures.room, c.self.invariant.2),
      c.self.invariant.3,
    )

pub returns-clause-ok : goal.returns-clause-ok
returns-clause-ok g c =
    let next = ready g.M.Event.Timed.parts g.M.Event.Ord.cmp g.M.ProcessModel.behaviour g.M.ProcessModel.is_state g.M.ProcessModel.known c.model_is_lawful.ensures.lawful c.self.invariant.0
    c.self.view_is c.requires in
    let a = c.self.inside in
    let value = c.deref_mut.ensures.value in
    let number = c.dst.result in
    let home = sym c.dst.ensures in
    subst (λ run. IsNextRun (simulation_of g.M.Event.Timed.parts g.M.Event.Ord.cmp (g.M.ProcessModel.behaviour run.model)) run
    (run_after (simulation_of g.M.Event.Timed.parts g.M.Event.Ord.cmp (g.M.ProcessModel.behaviour a.model.now)) a.model.now a.stop (a.handled + 1) c.handle_at.new.pending)) c.self.view_is
    (done_next next number home c.handle_at.new.states c.handle_at.new.pending
    (λ before at.
    let k = c.in_ok-handle_at.ensures.handled before (ap (λ xs. slice_get xs number) value ∙ at) in
    (k.0, k.1 ∙ ap (λ xs. set xs number k.0) value, k.2, k.3, k.5)))

pub returns-clause-stuck : goal.returns-clause-stuck
returns-clause-stuck g c =
    let next = ready g.M.Event.Timed.parts g.M.Event.Ord.cmp g.M.ProcessModel.behaviour g.M.ProcessModel.is_state g.M.ProcessModel.known c.model_is_lawful.ensures.lawful c.self.invariant.0
    c.self.view_is c.requires in
    λ stuck.
    stuck_told next c.dst.result (sym c.dst.ensures) (IsErrOf {E = Refused} (Ok tt) CounterFull)
    (λ before at. (c.in_ok-handle_at.ensures.handled before (ap (λ xs. slice_get xs c.dst.result) c.deref_mut.ensures.value ∙ at)).6)
    c.if-self-ge-MOST_EVENTS.false
    (subst (λ run. IsStuck (simulation_of g.M.Event.Timed.parts g.M.Event.Ord.cmp (g.M.ProcessModel.behaviour run.model)) run) (sym c.self.view_is) stuck)
