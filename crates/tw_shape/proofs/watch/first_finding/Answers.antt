use Rattle.std.proofs.Common.{◌≡◌, ℕ, ◌+◌, ◌-◌, ◌*◌, None, Some, ap, subst, sym, ◌∙◌, inl, inr, arith}
use Rattle.std.proofs.lemmas.Bool.{cases_lt}
use Rattle.std.specs.List.{flat_map}
use Rattle.tw_shape.specs.declared.verdict.Finding.{Finding}
use Rattle.tw_shape.specs.Verdict.{is_again}
use Rattle.tw_shape.specs.Watch.{after_first, gap_checkpoints}
use Rattle.tw_shape.proofs.Firsts.{found_early, found_first, found_nothing}
use Rattle.tw_shape.proofs.Searching.{time_first}
use Rattle.tw_shape.proofs.watch.first_finding.Goals as goal

pub overflow_sub-period : goal.overflow_sub-period
overflow_sub-period c =
    let shown = flat_map (gap_checkpoints c.args.every) c.args.gaps.now in
    let told = sym (rw (c.loop-number.invariant.gap, c.loop-number.invariant.gaps) at c.first_time.ensures.value) ∙ c.in-Some.is in
    let early = found_early c.args.every c.requires.every shown c.args.gap.now c.requires.timely.is c.requires.can c.requires.later c.loop-number.number c.in-Some.from told in
    let time = ap (λ g. g.time) (c.first_time.ensures.gap_same ∙ c.loop-number.invariant.gap) in
    omega arith

pub returns-in-Some-clause-value : goal.returns-in-Some-clause-value
returns-in-Some-clause-value c =
    let shown = flat_map (gap_checkpoints c.args.every) c.args.gaps.now in
    let n = c.min-number-end.ensures in
    let told = sym (rw (c.loop-number.invariant.gap, c.loop-number.invariant.gaps) at c.first_time.ensures.value) ∙ c.in-Some.is in
    let first = found_first c.args.every c.requires.every shown c.args.gap.now c.requires.timely.is c.requires.can c.requires.later
    c.loop-number.number c.in-Some.from (omega arith) c.loop-number.invariant.none told in
    let finding : ℕ → Finding = λ k. record { from = c.in-Some.from; period = k + c.loop-number.number * c.args.every - c.in-Some.from } in
    ap (λ k. Some (finding k)) (ap (λ g. g.time) (c.first_time.ensures.gap_same ∙ c.loop-number.invariant.gap)) ∙ sym first

pub loop-number-preserved : goal.loop-number-preserved
loop-number-preserved c = record {
  gaps = c.first_time.ensures.same ∙ c.loop-number.invariant.gaps;
  gap = c.first_time.ensures.gap_same ∙ c.loop-number.invariant.gap;
  none = λ i less.
      elim (cases_lt i c.loop-number.number) [
        | inl l ↦ c.loop-number.invariant.none i l
        | inr l ↦
            let is : i ≡ c.loop-number.number = omega arith in
            let told = sym (rw (c.loop-number.invariant.gap, c.loop-number.invariant.gaps) at c.first_time.ensures.value) ∙ c.in_default.is in
            subst (λ j. time_first (is_again c.args.every (after_first c.args.gap.now (j * c.args.every))) (flat_map (gap_checkpoints c.args.every) c.args.gaps.now) ≡ None) (sym is) told
      ];
}

pub returns-clause-value : goal.returns-clause-value
returns-clause-value c =
    let n = c.min-number-end.ensures in
    sym (found_nothing c.args.every c.requires.every (flat_map (gap_checkpoints c.args.every) c.args.gaps.now)
    c.args.gap.now c.requires.timely.is c.requires.can c.requires.later
    c.loop-number.number (omega arith) c.loop-number.invariant.none)
