use Rattle.std.proofs.Common.{◌≡◌, List, None, drop, get_or, set, suc, sym, ◌∙◌, refl, add-one}
use Rattle.tw_shape.specs.declared.watch.Gap.{Gap}
use Rattle.tw_shape.specs.Verdict.{is_again}
use Rattle.tw_shape.specs.Watch.{Watch, after_first, gap_checkpoints}
use Rattle.tw_shape.proofs.Searching.{IsLeft, drop_next, left_more, left_some, set_same, time_first, timely_left}
use Rattle.tw_shape.proofs.watch.first_time.Goals as goal

pub returns-then-is_some-clause-value : goal.returns-then-is_some-clause-value
returns-then-is_some-clause-value c =
    let gaps : List Gap = c.args.gaps.now in
    let x : Gap = c.index-gaps-i.result in
    let w : Watch = record { every = c.args.every; window = gaps; found = None } in
    let read : get_or c.loop-i.gaps c.loop-i.i x ≡ x = sym c.index-gaps-i.is in
    let told = c.time_of-time.ensures.value
    ∙ (λ i. time_first (is_again c.args.every (after_first (c.loop-i.invariant.gap i) c.args.ticks)) (gap_checkpoints c.args.every (read i))) in
    let here = rw c.loop-i.invariant.gaps at c.index-gaps-i.is in
    let before : IsLeft c.args.ticks c.args.gap.now w (drop c.loop-i.i gaps)
    = record { same = c.loop-i.invariant.left; timely = timely_left c.args.every c.loop-i.i gaps c.requires.gaps_timely } in
    left_some c.args.ticks c.args.gap.now w x (drop c.loop-i.i gaps) (drop (suc c.loop-i.i) gaps) (drop_next gaps c.loop-i.i x c.loop-i-test.true here) before c.args.every refl
    c.time_of-time.result told (sym c.if-is_some.ensures)

pub loop-i-preserved : goal.loop-i-preserved
loop-i-preserved c =
    let gaps : List Gap = c.args.gaps.now in
    let x : Gap = c.index-gaps-i.result in
    let w : Watch = record { every = c.args.every; window = gaps; found = None } in
    let read : get_or c.loop-i.gaps c.loop-i.i x ≡ x = sym c.index-gaps-i.is in
    let told = c.time_of-time.ensures.value
    ∙ (λ i. time_first (is_again c.args.every (after_first (c.loop-i.invariant.gap i) c.args.ticks)) (gap_checkpoints c.args.every (read i))) in
    let here = rw c.loop-i.invariant.gaps at c.index-gaps-i.is in
    let before : IsLeft c.args.ticks c.args.gap.now w (drop c.loop-i.i gaps)
    = record { same = c.loop-i.invariant.left; timely = timely_left c.args.every c.loop-i.i gaps c.requires.gaps_timely } in
    let after = left_more c.args.ticks c.args.gap.now w x (drop c.loop-i.i gaps) (drop (suc c.loop-i.i) gaps) (drop_next gaps c.loop-i.i x c.loop-i-test.true here) before c.args.every refl
    c.time_of-time.result told (sym c.if-is_some.ensures) in
    record {
      gaps = (λ i. set (c.loop-i.invariant.gaps i) c.loop-i.i ((c.time_of-time.ensures.same ∙ read) i)) ∙ set_same gaps c.loop-i.i x c.loop-i-test.true here;
      gap = c.time_of-time.ensures.other_same ∙ c.loop-i.invariant.gap;
      left = rw add-one (after.same);
    }
