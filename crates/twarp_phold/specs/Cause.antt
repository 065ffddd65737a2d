-- Why the program stops (own).
use Rattle.tw_process.specs.declared.refused.Refused.{Refused}
use Rattle.tw_process.specs.declared.refused.Refused.TheVariants.{CounterFull, Memory}
use Rattle.twarp_phold.specs.declared.cause.Cause.{Cause}
use Rattle.twarp_phold.specs.declared.cause.Cause.TheVariants as cause

-- the cause where a run is refused
abbrev pub cause_of : Refused → Cause
cause_of CounterFull = cause.CounterFull
cause_of Memory = cause.Memory
