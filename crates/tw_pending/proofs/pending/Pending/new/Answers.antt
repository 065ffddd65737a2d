use Rattle.std.proofs.Common.{◌≡◌, ◌≤◌, length, subst, sym, inl, refl, arith}
use Rattle.std.proofs.lemmas.Grind.{common_steps}
use Rattle.std.proofs.lemmas.List.{length-map}
use Rattle.std.specs.List.{AllByRecursion}
use Rattle.tw_pending.specs.Ring.{all_of, lists_of}
use Rattle.tw_pending.proofs.Days.{all_empty, more_empty}
use Rattle.tw_pending.proofs.pending.Pending.new.Goals as goal

pub loop-preserved : goal.loop-preserved
loop-preserved g c = record {
  count = grind (arith, common_steps);
  none = subst (λ days. length (all_of (lists_of days)) ≡ 0) (sym c.in_ok-push.ensures.items) (more_empty c.loop.days.items _ c.new.ensures.items c.loop.invariant.none);
}

pub invariant_of-result : goal.invariant_of-result
invariant_of-result g c =
    let days = c.loop.days.items in
    let inv = c.loop.invariant in
    let long = length-map days (λ d. d.items) in (
      c.new-heap.ensures.heap_order,
      record { are = all_empty g.E.Timed.parts.time 0 0 (lists_of days) inv.none; count = inv.none; many = inl (omega (arith, inv.count, c.loop-test.false, c.loop.auto.counter-end)) },
      subst (λ tick. AllByRecursion (λ e. g.E.Timed.parts.time e ≤ 0) tick) (sym c.new-2.ensures) tt,
      inl refl,
    )
