-- A message that comes to a logical process (after Jefferson, Virtual Time, 1985).
use Rattle.std.specs.Prelude.{◌==◌, nat_lt, Result, Ok, Err, if◌then◌else◌}
use Rattle.tw_engine.specs.Process.{Logical}
use Rattle.tw_engine.specs.declared.rejection.Rejection.{Rejection}
use Rattle.tw_engine.specs.declared.rejection.Rejection.TheVariants.{NotMine, Late, Foreign}
use Rattle.tw_sim.specs.Simulation.{Simulation}

-- whether an event, or what takes it back, may come to a process, or why not
abbrev pub refusing : {S M E : Type 0} → Simulation S E → Logical M E → E → Result (Unit {0}) Rejection
refusing m p e =
    if m.dst e == p.number
    then (if nat_lt (m.time e) p.bound then Err (Late p.bound)
    else (if m.suits e then Ok tt else Err Foreign))
    else Err NotMine
