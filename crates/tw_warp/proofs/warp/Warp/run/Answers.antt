use Rattle.std.proofs.Common.{◌≡◌, ◌+◌, ◌≤◌, length, refl, Err, ap, sym, ◌∙◌, subst, arith}
use Rattle.std.specs.Prelude.{vec_capacity, vec_len}
use Rattle.tw_model.specs.declared.memory.OrMemory.TheVariants as or_memory
use Rattle.tw_core.specs.Run.{IsSeq}
use Rattle.tw_model.specs.Case.{simulation}
use Rattle.tw_warp.specs.Warp.{Warp, warp_core}
use Rattle.tw_warp.proofs.Runs.{IsRun, one_cut, one_done, one_refused, run_none, same_machine}
use Rattle.tw_warp.proofs.Turns.{seq_of}
use Rattle.tw_warp.proofs.warp.Warp.run.Goals as goal
use Rattle.tw_warp.proofs.warp.Warp.run.Goals.{in-Ok-step, in-Err-Fault}

pub returns-in_default-clause-seq : goal.returns-in_default-clause-seq
returns-in_default-clause-seq c = subst (λ (v : Warp). IsSeq (simulation v.case) (warp_core v)) c.self.view_is (seq_of _ c.self.invariant)

pub loop-step-init : goal.loop-step-init
loop-step-init c = record {
  far = subst (IsRun (simulation c.args.self.now.case) c.args.steps.now 0 (warp_core c.args.self.now) (warp_core c.args.self.now)) (sym (c.reserve.ensures.items ∙ c.new-answers.ensures.items))
      (run_none (simulation c.args.self.now.case) c.args.steps.now (warp_core c.args.self.now));
  same = record { case = refl; workers = refl; stop = refl; cancel = refl };
  rising = omega arith;
  seq = subst (λ (v : Warp). IsSeq (simulation v.case) (warp_core v)) c.self.view_is (seq_of _ c.self.invariant);
  count = c.reserve.ensures.len ∙ c.new-answers.ensures.len;
  room = (let more = c.in-Ok.ensures.ok in let len = c.reserve.ensures.len in omega arith);
}

pub returns-in-Err-Memory-clause-fault : goal.returns-in-Err-Memory-clause-fault
returns-in-Err-Memory-clause-fault c =
    let inv = c.loop-step.invariant in
    let told : c.step.result ≡ Err or_memory.Memory = c.in-Err-Memory.is ∙ ap (λ e. Err e) c.in-Err-Memory.field-0-is in
    one_cut c.args.self.now c.loop-step.self c.step.new.self inv.same c.args.steps.now c.loop-step.step-index c.loop-step.answers.items c.loop-step-test.true inv.far _
    (record { step = c.len.result + 1; answers = c.loop-step.answers }) (ap (λ k. k + 1) (c.len.ensures ∙ inv.count)) refl
    (λ f refused. let fault : c.step.result ≡ Err (or_memory.Fault f) = (c.step.ensures.refused f).1 refused in cc)
    (c.step.ensures.memory told)

pub loop-step-preserved : goal.loop-step-preserved
loop-step-preserved c =
    let n = c.loop-step.step-index in
    let inv = c.loop-step.invariant in
    let far = IsRun (simulation c.args.self.now.case) c.args.steps.now (n + 1) (warp_core c.args.self.now) (warp_core c.step.new.self) in
    let before = inv.count in
    let all = inv.room in
    let risen = inv.rising in
    let rises = c.step.ensures.rising in
    elim c.match-step.branch [
      | in-Ok-step w ↦ (
          let len = w.push_reserved.ensures.len in
          let capacity = w.push_reserved.ensures.capacity in
          record {
            far = subst far (sym (ap (λ v. v.items) w.answers-is ∙ w.push_reserved.ensures.items))
                (one_done c.args.self.now c.loop-step.self c.step.new.self inv.same c.args.steps.now n c.loop-step.answers.items c.loop-step-test.true inv.far _ w.in-Ok-step.ensures.ok);
            same = same_machine inv.same c.step.ensures.same;
            rising = omega arith;
            seq = c.step.ensures.seq;
            count = ap vec_len w.answers-is ∙ omega arith;
            room = subst (λ v. length c.args.steps.now ≤ vec_capacity v) (sym w.answers-is) (omega arith);
          })
      | in-Err-Fault w ↦ (
          let len = w.push_reserved-in-Err-Fault.ensures.len in
          let capacity = w.push_reserved-in-Err-Fault.ensures.capacity in
          let told = w.in-Err-Fault.is ∙ ap (λ e. Err e) w.in-Err-Fault.field-0-is in
          record {
            far = subst far (sym (ap (λ v. v.items) w.answers-is ∙ w.push_reserved-in-Err-Fault.ensures.items))
                (one_refused c.args.self.now c.loop-step.self c.step.new.self inv.same c.args.steps.now n c.loop-step.answers.items c.loop-step-test.true inv.far _ _
                (c.step.ensures.unchanged _ told) ((c.step.ensures.refused _).0 told));
            same = same_machine inv.same c.step.ensures.same;
            rising = omega arith;
            seq = c.step.ensures.seq;
            count = ap vec_len w.answers-is ∙ omega arith;
            room = subst (λ v. length c.args.steps.now ≤ vec_capacity v) (sym w.answers-is) (omega arith);
          })
    ]
