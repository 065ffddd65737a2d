-- Why a run did not come to its stop, and why the program stops then (own).
use Rattle.std.specs.Prelude.{◌≡◌}
use Rattle.tw_commands.specs.declared.cause.Cause.{Cause}
use Rattle.tw_commands.specs.declared.cause.Cause.TheVariants as cause
use Rattle.tw_handlers.specs.declared.fault.CounterFull.{CounterFull as AFullCounter}
use Rattle.tw_model.specs.declared.memory.OrMemory.{OrMemory}
use Rattle.tw_model.specs.declared.memory.OrMemory.TheVariants as or_memory
use Rattle.tw_parallel.specs.Sim.{GoesOn, Sim}
use Rattle.tw_run.specs.declared.cause.Stopped.{Stopped}
use Rattle.tw_run.specs.declared.cause.Stopped.TheVariants.{Memory, NoThread, Full}
use Rattle.tw_threads.specs.Left.{IsFullAhead}
use Rattle.tw_threads.specs.declared.end_cause.EndCause.{EndCause}
use Rattle.tw_threads.specs.declared.end_cause.EndCause.TheVariants as ended

-- why the one-thread run stopped
abbrev pub stopped_alone : OrMemory AFullCounter → Stopped AFullCounter
stopped_alone (or_memory.Fault full) = Full full
stopped_alone or_memory.Memory = Memory

-- it tells why workers ended whose stop was not refused, and who stand so
abbrev pub TellsEnd : EndCause → Sim → Stopped Sim → Type 0
TellsEnd ended.Memory s why = why ≡ Memory
TellsEnd ended.CounterFull s why = why ≡ Full s
TellsEnd ended.NoThread s why = why ≡ NoThread
TellsEnd ended.StopLower s why = ⊥

-- why the program stops
abbrev pub cause_of : Stopped AFullCounter → Cause
cause_of Memory = cause.Memory
cause_of NoThread = cause.NoThread
cause_of (Full full) = cause.CounterFull

-- a run by workers stopped for this, who have gone on to a full counter of one of their routers where that is told
abbrev pub HasStopped : Sim → Stopped Sim → Type 0
HasStopped s Memory = Unit {0}
HasStopped s NoThread = Unit {0}
HasStopped s (Full t) = GoesOn s t × IsFullAhead t.board.stop t.shares
