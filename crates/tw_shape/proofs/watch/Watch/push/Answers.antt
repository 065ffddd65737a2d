use Rattle.std.proofs.Common.{◌≡◌, ◌+◌, ◌-◌, ◌*◌, ◌≤◌, List, ap, subst, sym, ◌∙◌, arith}
use Rattle.std.proofs.Math.Nat.{mul-le-mul_right}
use Rattle.std.specs.List.{All}
use Rattle.tw_model.specs.declared.limits.TheConstants.{LATEST}
use Rattle.tw_shape.specs.declared.watch.Gap.{Gap}
use Rattle.tw_shape.specs.Windows.{IsTimely}
use Rattle.tw_shape.proofs.Searching.{timely_push}
use Rattle.tw_shape.proofs.watch.Watch.push.Goals as goal

pub invariant_of-self : goal.invariant_of-self
invariant_of-self c =
    let every = c.self-2.inside.every in
    let gap : Gap = record { time = c.args.time; count = c.still_times-count.result; shape = c.args.shape } in
    let own : every ≡ c.args.self.now.every = ap (λ v. v.every) (c.self-2.view_is ∙ c.found_with-self-inside.ensures.same) in
    let latest : c.args.time + (c.args.most - 1) * every ≤ LATEST = subst (λ k. c.args.time + (c.args.most - 1) * k ≤ LATEST) (sym own) c.requires.latest in
    let some = c.still_times-count.ensures.some in
    let within = c.still_times-count.ensures.within in
    let fewer : gap.count - 1 ≤ c.args.most - 1 = omega arith in
    let less = mul-le-mul_right every fewer in
    let still = rw (ap (λ v. v.every) c.self.view_is ∙ sym own) at c.still_times-count.ensures.still in
    let timely : IsTimely every gap = record { is = record { some = some; still = still }; latest = omega arith } in
    record {
      some = c.self-2.invariant.some;
      most = c.self-2.invariant.most;
      places = ap (λ b. b.capacity) c.push_back.ensures.items ∙ c.self-2.invariant.places;
      gaps = subst (λ (l : List Gap). All (IsTimely every) l) (sym (ap (λ b. b.items) c.push_back.ensures.items))
          (timely_push every c.self-2.inside.window.capacity c.self-2.inside.window.items c.found_with-self-inside.new.gap c.self-2.invariant.gaps
          (subst (IsTimely every) (sym c.found_with-self-inside.ensures.gap_same) timely));
    }
