-- A parallel run with a watch, checkpoint by checkpoint.
use Rattle.std.proofs.Common.{◌≡◌, ℕ, ◌+◌, ◌*◌, ◌≤◌, refl, sym, ap, subst, ◌∙◌, arith}
use Rattle.std.proofs.Math.Nat.{mul-le-mul_right}
use Rattle.tw_parallel.proofs.Rounds.{goes_on_both}
use Rattle.tw_parallel.specs.Sim.{GoesOn, Sim}
use Rattle.tw_seq.proofs.Checkpoints.{seen_every}
use Rattle.tw_shape.specs.Shape.{Shape, shape}
use Rattle.tw_shape.specs.Watch.{HasSeen, IsGap, Watch, case_gap, fresh, gap, nothing, with_gap}

-- the run has gone on, not past the checkpoint of this number, and the watch has seen its case's checkpoints to that one
pub record IsOnTheWay (every seen : ℕ) (first now : Sim) (watch : Watch) : Type 0 where
  pub goes_on : GoesOn first now
  pub stop : now.board.stop ≤ seen * every
  pub shown : HasSeen first.case every seen watch

pub on_the_way_begin : (every : ℕ) (first : Sim) (watch : Watch) → first.board.stop ≡ 0 → watch ≡ fresh every → IsOnTheWay every 0 first first watch
on_the_way_begin every first watch opening new = record {
  goes_on = record { case = refl; workers = refl; retains = λ all. all; cancels = refl; bound = omega arith };
  stop = omega arith;
  shown = subst (HasSeen first.case every 0) (sym new) nothing;
}

-- one gap more is shown
pub on_the_way_next : (every seen count : ℕ) (first before now : Sim) (watch new : Watch) (s : Shape) → IsOnTheWay every seen first before watch
    → GoesOn before now → now.board.stop ≡ (seen + 1) * every → s ≡ shape now.case now.board.stop
    → IsGap watch.every (record { time = (seen + 1) * every; count = count; shape = s })
    → new ≡ with_gap watch (record { time = (seen + 1) * every; count = count; shape = s })
    → IsOnTheWay every (seen + count) first now new
on_the_way_next every seen count first before now watch new s way went stop made is_gap step =
    let time = (seen + 1) * every in
    let on = goes_on_both first before now way.goes_on went in
    let own : now.case ≡ first.case = on.case in
    let as_made : s ≡ shape first.case time = made ∙ (λ i. shape (own i) (stop i)) in
    let every_is = seen_every way.shown in
    let shown : IsGap every (case_gap first.case every (seen + 1) count)
    = subst (λ z. IsGap every (record { time = time; count = count; shape = z })) as_made (subst (λ k. IsGap k (record { time = time; count = count; shape = s })) every_is is_gap) in
    let stepped : new ≡ with_gap watch (case_gap first.case every (seen + 1) count)
    = step ∙ ap (λ z. with_gap watch (record { time = time; count = count; shape = z })) as_made in
    record {
      goes_on = on;
      stop = (let some = is_gap.some in let more = mul-le-mul_right every (let le : seen + 1 ≤ seen + count = omega arith in le) in omega arith);
      shown = subst (HasSeen first.case every (seen + count)) (sym stepped) (gap way.shown shown);
    }
