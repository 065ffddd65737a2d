-- Why a program stops that could not read its input, or whose run did not reach its stop (own).
use Rattle.tw_commands.specs.declared.cause.Cause.{Cause}
use Rattle.tw_commands.specs.declared.cause.Cause.TheVariants as cause
use Rattle.tw_device.specs.declared.failed.Failed.{Failed as AFailure}
use Rattle.tw_handlers.specs.declared.fault.CounterFull.{CounterFull as AFullCounter}
use Rattle.tw_model.specs.declared.memory.OrMemory.{OrMemory}
use Rattle.tw_model.specs.declared.memory.OrMemory.TheVariants.{Fault, Memory}

-- of reading
abbrev pub read_cause : OrMemory AFailure → Cause
read_cause (Fault f) = cause.Device
read_cause Memory = cause.Memory

-- of a run
abbrev pub run_cause : OrMemory AFullCounter → Cause
run_cause (Fault f) = cause.CounterFull
run_cause Memory = cause.Memory
