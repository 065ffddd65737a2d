-- A run with a watch, checkpoint by checkpoint.
use Rattle.std.proofs.Common.{◌≡◌, ℕ, ◌+◌, ◌-◌, ◌*◌, ◌/◌, ◌<◌, ◌≤◌, max, true, Option, Some, None, is_some, refl, sym, ap, subst, ◌∙◌, arith}
use Rattle.std.proofs.lemmas.Bool.{false≢true}
use Rattle.std.proofs.Math.Nat.{div-mul-le_self, mul-le-mul_right}
use Rattle.tw_model.specs.Case.{Case, simulation}
use Rattle.tw_sim.specs.Seq.{begin}
use Rattle.tw_sim.proofs.Seq.{turns_later}
use Rattle.tw_shape.specs.Shape.{Shape, shape}
use Rattle.tw_shape.specs.declared.verdict.Finding.{Finding}
use Rattle.tw_shape.specs.Verdict.{finding}
use Rattle.tw_shape.proofs.Findings.{finding_stays}
use Rattle.tw_shape.specs.Watch.{HasSeen, IsGap, Watch, case_gap, fresh, gap, nothing, with_gap}
use Rattle.tw_seq.specs.Run.{GetsStuck, IsBegun, IsStuck, Run, complete_run, opening_run}

-- the watch has seen so many checkpoints of the run's case, and the run is not past the last of them
pub record IsOnTheWay (every seen : ℕ) (first now : Run) (watch : Watch) : Type 0 where
  pub case : now.case ≡ first.case
  pub stop : now.stop ≤ seen * every
  pub shown : HasSeen first.case every seen watch

pub on_the_way_begin : (every : ℕ) (first : Run) (watch : Watch) → first ≡ opening_run first.case → watch ≡ fresh every → IsOnTheWay every 0 first first watch
on_the_way_begin every first watch opening new = record {
  case = refl;
  stop = (let e : first.stop ≡ 0 = ap (λ r. r.stop) opening in omega arith);
  shown = subst (HasSeen first.case every 0) (sym new) nothing;
}

-- a watch keeps its number of ticks
pub seen_every : {case : Case} {every n : ℕ} {w : Watch} → HasSeen case every n w → w.every ≡ every
seen_every nothing = refl
seen_every (gap seen is) = seen_every seen

-- what was found at some checkpoints is what is found at more
pub found_stays : (case : Case) (every seen last : ℕ) (found : Option Finding) → seen ≤ last → found ≡ finding case every seen → is_some found ≡ true → found ≡ finding case every last
found_stays case every seen last None fewer is some = absurd (false≢true some)
found_stays case every seen last (Some f) fewer is some =
    let sum : seen + (last - seen) ≡ last = omega arith in
    sym (subst (λ n. finding case every n ≡ Some f) sum (finding_stays case every seen (last - seen) f (sym is)))

-- the checkpoints that are left are not past the stop
pub left_within : (seen stop every : ℕ) → seen < stop / every → (seen + 1) * every + (stop / every - seen - 1) * every ≤ stop
left_within seen stop every some =
    let more = stop / every - seen - 1 in
    let sum : stop / every ≡ seen + 1 + more = omega arith in
    let most : (seen + 1 + more) * every ≤ stop = subst (λ n. n * every ≤ stop) sum (div-mul-le_self stop every) in
    omega arith

-- one gap more is shown
pub on_the_way_next : (every seen count : ℕ) (first before now : Run) (watch new : Watch) (s : Shape) → IsOnTheWay every seen first before watch
    → now ≡ complete_run before.case (max before.stop ((seen + 1) * every)) → s ≡ shape now.case now.stop
    → IsGap watch.every (record { time = (seen + 1) * every; count = count; shape = s })
    → new ≡ with_gap watch (record { time = (seen + 1) * every; count = count; shape = s })
    → IsOnTheWay every (seen + count) first now new
on_the_way_next every seen count first before now watch new s way run made is_gap step =
    let time = (seen + 1) * every in
    let early : before.stop ≤ time = (let k = way.stop in omega arith) in
    let greatest : max before.stop time ≡ time = omega arith in
    let here : now ≡ complete_run first.case time = run ∙ (λ i. complete_run (way.case i) (greatest i)) in
    let as_made : s ≡ shape first.case time = made ∙ ap (λ r. shape r.case r.stop) here in
    let every_is = seen_every way.shown in
    let shown : IsGap every (case_gap first.case every (seen + 1) count)
    = subst (λ z. IsGap every (record { time = time; count = count; shape = z })) as_made (subst (λ k. IsGap k (record { time = time; count = count; shape = s })) every_is is_gap) in
    let stepped : new ≡ with_gap watch (case_gap first.case every (seen + 1) count)
    = step ∙ ap (λ z. with_gap watch (record { time = time; count = count; shape = z })) as_made in
    record {
      case = ap (λ r. r.case) here;
      stop = (let e : now.stop ≡ time = ap (λ r. r.stop) here in let some = is_gap.some in
          let more = mul-le-mul_right every (let le : seen + 1 ≤ seen + count = omega arith in le) in omega arith);
      shown = subst (HasSeen first.case every (seen + count)) (sym stepped) (gap way.shown shown);
    }

-- a run that is stuck before a time is stuck on its way to each later one
pub stuck_later : (case : Case) (stop : ℕ) (run : Run) → run.case ≡ case → run.stop ≤ stop → IsBegun run → IsStuck run → GetsStuck case stop
stuck_later case stop run own early begun stuck =
    let later = turns_later (simulation run.case) begun.turns.0 run.stop stop (begin (simulation run.case)) early in
    let inside : GetsStuck run.case stop = record {
      run = record run { stop = stop };
      own = refl;
      to_stop = refl;
      reached = (later.0, later.1 ∙ begun.turns.1);
      stuck = (stuck.0, (stuck.1.0, stuck.1.1, (let k = stuck.1.2 in omega arith)), stuck.2);
    } in
    subst (λ c. GetsStuck c stop) own inside
