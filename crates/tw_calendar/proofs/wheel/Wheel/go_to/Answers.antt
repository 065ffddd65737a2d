use Rattle.std.proofs.Common.{◌/◌, arith}
use Rattle.tw_calendar.specs.Wheel.{width_of}
use Rattle.tw_calendar.proofs.Turns.{turn_base}
use Rattle.tw_calendar.proofs.Widths.{later_width}
use Rattle.tw_calendar.proofs.wheel.Wheel.go_to.Goals as goal

pub invariant_of-self : goal.invariant_of-self
invariant_of-self c =
    let a = c.self.inside in
    let v = c.self.invariant in
    record {
      turn =
          turn_base width_of a.base a.marks a.buckets.items v.turn (c.args.time / 1024) (omega (arith, c.if-width-self.false)) (λ e there.
          later_width a.start (c.args.time / 1024) e (v.start e there) (λ l. omega (arith, l, c.if-width-self.false)));
      start = v.start;
    }
