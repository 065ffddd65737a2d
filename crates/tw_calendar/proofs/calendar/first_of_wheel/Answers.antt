use Rattle.std.proofs.Common.{sym, arith}
use Rattle.tw_calendar.proofs.Merged.{sooner_ring}
use Rattle.tw_calendar.proofs.calendar.first_of_wheel.Goals as goal

pub returns-then-least_time-soonest-clause-ring : goal.returns-then-least_time-soonest-clause-ring
returns-then-least_time-soonest-clause-ring c =
    sooner_ring c.args.ring.now c.args.wheel.now c.soonest.result c.taken.ensures (omega arith) (omega (arith, sym c.least_time.ensures, c.if-least_time-soonest.true)) c.soonest.ensures
